-- Counts and traffic of at most 63 events in one word: an event adds one to the part of its outcome, one to the part of
-- what it starts, and its traffic; no part goes above 126, so the parts are the counts and the traffic.
use Prim.Native.Nat.{ℕ, zero, suc, ◌+◌, ◌*◌, ◌/◌, ◌%◌, ◌^◌, ◌≤◌, ◌<◌}
use mathlib.Core.Path.{◌≡◌, refl}
use mathlib.Core.Bool.{not, ◌&&◌, and-true, and-false}
use mathlib.Core.List.{List, [], ◌∷◌}
use native.Mathlib.Nat.{pow-succ', zero-div, div-div-eq-div-mul}
use native.Mathlib.Omega.{arith}
use lib.ListN.{get_or}
use borrow.Author.Rules.{rules}
use lib.Dec.{eqb, leb}
use mir.Syntax.{w64}
use mir.Val.{Fits}
use Rattle.machine.specs.declared.Counts.{Counts}
use Rattle.machine.specs.declared.Traffic.{Traffic}
use Rattle.machine.specs.declared.Outcome.{Outcome}
use Rattle.machine.specs.declared.Outcome.TheVariants.{Idle, Moved, Fill, Take, Sent, Got}
use Rattle.machine.specs.Bytes.{bit}
use Rattle.machine.specs.Image.{State}
use Rattle.machine.specs.Events.{Event}
use Rattle.machine.specs.Run.{outcome_number, no_counts, counted, counts_from}
use Rattle.machine.specs.Traffic.{no_traffic, together}
use Rattle.machine.proofs.Tallies.{puts_add, gets_add, fills_add, takes_add, sent_add, got_add, idle_add, records_add}
use Rattle.ledger.specs.Bounds.{NoneAbove}
use Rattle.ledger.proofs.Bounds.{none_above_start, counted_above}
use Rattle.reaction.specs.Reaction.{traffic_word}
use Rattle.place.specs.Performed.{started_as}
use Rattle.turns.specs.Turns.{part_of, added, traffic_in}

-- an outcome by its number
abbrev has : ℕ → ℕ → ℕ
has number wanted = bit (eqb number wanted)

-- what an outcome with this number adds to the word: one that moves something without a record nothing
abbrev pub share : ℕ → ℕ
share k = has k 0 + 2 ^ 14 * has k 2 + 2 ^ 21 * has k 3 + 2 ^ 28 * has k 4 + 2 ^ 35 * has k 5

-- what an event adds
abbrev pub weight : ℕ → Outcome → Traffic → ℕ
weight code o u = started_as code o + traffic_word u + share (outcome_number o)

-- a start counts in the part of its kind, and of an idle event none does
pub starts : (code : ℕ) (o : Outcome) → started_as code o
    ≡ 2 ^ 42 * bit (eqb code 0 && not (eqb (outcome_number o) 0))
    + 2 ^ 49 * bit (eqb code 1 && not (eqb (outcome_number o) 0))
starts code Idle = simp and-false
starts code Moved = simp and-true
starts code (Fill m) = simp and-true
starts code (Take m) = simp and-true
starts code Sent = simp and-true
starts code Got = simp and-true

-- a number by its parts, the lowest first
unfoldable pub in_parts : List ℕ → ℕ
in_parts [] = 0
in_parts (d ∷ ds) = d + 128 * in_parts ds

-- counts and traffic, a part each
abbrev laid : Counts → Traffic → List ℕ
laid c t =
    c.idle ∷ t.requests ∷ c.fills ∷ c.takes ∷ c.sent ∷ c.got ∷ c.puts ∷ c.gets ∷ t.departures ∷ []

-- those of n events in a word
pub record Packed (n word : ℕ) (c : Counts) (t : Traffic) : Type 0 where
  pub above : NoneAbove n c
  pub records : c.records ≡ c.fills + c.takes + c.sent + c.got
  pub requests : t.requests ≤ 2 * n
  pub departures : t.departures ≤ n
  pub is : word ≡ in_parts (laid c t)

pub packed_none : Packed 0 0 no_counts no_traffic
unfolding in_parts
packed_none =
    record {
      above = none_above_start;
      records = refl;
      requests = omega arith;
      departures = omega arith;
      is = refl;
    }

-- ---- one event more

-- each of the six numbers of outcomes is small; of those with a record, a shift gives its share
pub record Numbered (k : ℕ) : Type 0 where
  pub few : k < 6
  pub shifted : 1 * 2 ^ (7 * k) % 18446744073709551616 ≡ 2 ^ (7 * k)
  pub part : 2 ≤ k → 2 ^ (7 * k) ≡ share k
  pub entry : bit (leb 2 k) ≡ has k 2 + has k 3 + has k 4 + has k 5

pub numbered : (o : Outcome) → Numbered (outcome_number o)
numbered Idle = record { few = omega arith; shifted = refl; part = λ h. absurd (omega arith); entry = refl }
numbered Moved = record { few = omega arith; shifted = refl; part = λ h. absurd (omega arith); entry = refl }
numbered (Fill m) = record { few = omega arith; shifted = refl; part = λ _. refl; entry = refl }
numbered (Take m) = record { few = omega arith; shifted = refl; part = λ _. refl; entry = refl }
numbered Sent = record { few = omega arith; shifted = refl; part = λ _. refl; entry = refl }
numbered Got = record { few = omega arith; shifted = refl; part = λ _. refl; entry = refl }

pub packed_more : {n word : ℕ} {c : Counts} {t : Traffic} (code : ℕ) (o : Outcome) (u : Traffic) → u.requests ≤ 2
    → u.departures ≤ 1 → Packed n word c t
    → Packed (n + 1) (word + weight code o u) (counted code o c) (together t u)
unfolding counted in_parts
packed_more code o u requests departures p =
    record {
      above = counted_above code o p.above;
      records = omega (arith, (numbered o).entry);
      requests = omega (arith, p.requests);
      departures = omega (arith, p.departures);
      is = omega (arith, starts code o);
    }

-- ---- at most 63 events

-- each a part
abbrev Small : List ℕ → Type 0
Small [] = Unit {0}
Small (d ∷ ds) = (d < 128) × Small ds

-- a number's part k is the one that it was made of
part_is : (ds : List ℕ) → Small ds → (k : ℕ) → part_of (in_parts ds) k ≡ get_or ds k 0
unfolding in_parts
part_is [] small k = rw (zero-div (128 ^ k))
part_is (d ∷ ds) small zero = omega arith
part_is (d ∷ ds) small (suc k) =
    let above : (d + 128 * in_parts ds) / 128 ≡ in_parts ds = omega arith in
    rw (pow-succ' 128 k, ← div-div-eq-div-mul, above) (part_is ds small.1 k)

module _ {n word : ℕ} {c : Counts} {t : Traffic} (p : Packed n word c t) (most : n ≤ 63) where
  pub packed_fits : Fits w64 word
  unfolding in_parts
  packed_fits = omega arith

  -- so the word has the traffic
  pub traffic_is : traffic_in word ≡ t
  unfolding in_parts
  traffic_is =
      let requests : part_of word 1 ≡ t.requests = rw p.is (part_is (laid c t) (search rules) 1) in
      let departures : word / 128 ^ 8 ≡ t.departures = omega arith in
      λ i. record { requests = requests i; departures = departures i }

-- and adds what the events add, whatever the counts before
pub added_is : {n word : ℕ} {t : Traffic} (vs : List Event) (st : State)
    → Packed n word (counts_from no_counts st vs) t → n ≤ 63
    → (c : Counts) → added c word ≡ counts_from c st vs
unfolding in_parts
added_is {n} {word} {t} vs st p most c =
    let part = part_is (laid (counts_from no_counts st vs) t) (search rules) in
    let idle : word % 128 ≡ (counts_from no_counts st vs).idle = omega arith in
    rw (idle, p.is, part 2, part 3, part 4, part 5, part 6, part 7, ← p.records)
    (rw (← puts_add, ← gets_add, ← fills_add, ← takes_add, ← sent_add, ← got_add, ← idle_add, ← records_add))
