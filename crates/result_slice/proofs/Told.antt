-- What a call of the suite's host returns and leaves, by the length of its result slice, whatever the call's own answer
-- is: it depends on the call only through its answer, so it is said once for all. With a slice of at least 80 bytes it
-- is the answer's number and its values as ten words; with a shorter one it is the first refusal among the call's
-- tests, else 10, and every slice stays. A ledger's or an output's test comes last and can only be refused with 10, so
-- it decides nothing there (numbers/proofs/Verdicts). Each way through a call is then a law over what lower functions
-- answered (ring_host/proofs/Ways, ring_tools/proofs/Ways).
use Rattle.std.specs.Prelude.{Err, Ok}
use Prim.Native.Nat.{ℕ, ◌≤◌, ◌<◌}
use mathlib.Core.Path.{◌≡◌, refl, sym, ◌∙◌}
use mathlib.Core.Bool.{true, false, and-false}
use mathlib.Core.List.{List, [], ◌∷◌, ◌++◌}
use native.Mathlib.Omega.{arith}
use lib.ListN.{length, drop}
use lib.Dec.{eqb}
use borrow.Author.Tests.{le-leb, lt-leb, ne_eqb}
use Rattle.machine.specs.declared.Refusal.{Refusal}
use Rattle.machine.specs.Verdict.{Verdict}
use Rattle.std.specs.Array.{IsFirstChunk}
use Rattle.machine.specs.Bytes.{splice}
use Rattle.machine.specs.Refusals.{number_of, place_of}
use Rattle.machine.specs.Answers.{Answer, answer}
use Rattle.machine.specs.Host.{takes_result, returned, result_bytes, result_after, lent_with}
use Rattle.machine.proofs.Laws.Refusals.{number_range}
use Rattle.numbers.specs.Verdicts.{refusal_of}

-- what a call whose answer is a returns and leaves in its result slice
abbrev pub Tells : Answer → List ℕ → ℕ → List ℕ → Type 0
Tells a result n t = (n ≡ returned a result) × (t ≡ result_after a result)

-- and the same with another slice, which the call itself leaves as `done`
abbrev pub Leaves : Answer → List ℕ → List ℕ → List ℕ → ℕ → List ℕ → List ℕ → Type 0
Leaves a result before done n t u =
    (n ≡ returned a result) × ((t ≡ lent_with result before done) × (u ≡ result_after a result))

-- ---- at least 80 bytes

module _ (result : List ℕ) (room : 80 ≤ length result) where
  takes : takes_result result ≡ true
  takes = le-leb 80 (length result) room

  -- other slices are as the call leaves them
  pub lent_as_left : (before : List ℕ) {t done : List ℕ} → t ≡ done → t ≡ lent_with result before done
  unfolding lent_with
  lent_as_left before left = rw takes left

  -- the number, and the values
  answered : (a : Answer) {t : List ℕ} → t ≡ splice result 0 (result_bytes a.values) → Tells a result a.number t
  unfolding returned result_after
  answered a wrote = (rw (takes, and-false (eqb a.number 0)), rw takes wrote)

  -- done, with its values
  pub done_told : {a : Answer} {t : List ℕ} (values : List ℕ) → answer (Ok tt) values ≡ a
      → t ≡ splice result 0 (result_bytes values)
      → Tells a result 0 t
  done_told values is wrote = rw (← is) (answered (answer (Ok tt) values) wrote)

  -- refused, with its place
  pub refused_told : {a : Answer} {n : ℕ} {t : List ℕ} (r : Refusal) → answer (Err r) [] ≡ a → n ≡ number_of r
      → t ≡ splice result 0 (result_bytes (place_of r ∷ []))
      → Tells a result n t
  refused_told r is number wrote = rw (← is, number) (answered (answer (Err r) []) wrote)

-- the same by the array of the first 80 bytes, which the library lends, with what is told in it and the rest as it was
module _ (result : List ℕ) {lent : List ℕ} (first : IsFirstChunk result lent 80) where
  pub told_first : {a b : Answer} {n : ℕ} {told : List ℕ} → a ≡ b → n ≡ a.number → told ≡ result_bytes a.values
      → length told ≡ 80
      → Tells b result n (told ++ drop 80 result)
  unfolding splice
  told_first {a} {b} {n} {told} is number wrote long =
      let there : splice result 0 (result_bytes a.values) ≡ told ++ drop 80 result = rw (← wrote, long) refl in
      let tells = answered result first.enough a (sym there) in
      rw (← is) (number ∙ tells.0, tells.1)

  -- with another slice, which the call itself leaves as `done`
  pub told_left : {a b : Answer} (before : List ℕ) {done t told : List ℕ} {n : ℕ} → t ≡ done → a ≡ b
      → n ≡ a.number → told ≡ result_bytes a.values
      → length told ≡ 80
      → Leaves b result before done n t (told ++ drop 80 result)
  told_left before left is number wrote long =
      let tells = told_first is number wrote long in
      (tells.0, (lent_as_left result first.enough before left, tells.1))

-- ---- fewer

module _ (result : List ℕ) (short : length result < 80) where
  takes_not : takes_result result ≡ false
  takes_not = lt-leb 80 (length result) short

  pub lent_untouched : (before done : List ℕ) → before ≡ lent_with result before done
  unfolding lent_with
  lent_untouched before done = rw takes_not

  number_short : (v : Verdict) (values : List ℕ) → number_of (refusal_of v) ≡ returned (answer v values) result
  unfolding returned
  number_short (Ok _) values = rw takes_not
  number_short (Err r) values =
      let some : eqb (number_of r) 0 ≡ false = ne_eqb (number_of r) 0 (λ none. omega (arith, (number_range r).0)) in
      rw some

  pub short_told : {n : ℕ} (v : Verdict) (values : List ℕ) → n ≡ number_of (refusal_of v)
      → Tells (answer v values) result n result
  unfolding result_after
  short_told v values number = (number ∙ number_short v values, rw takes_not)

  pub short_left : (before done : List ℕ) {n : ℕ} (v : Verdict) (values : List ℕ) → n ≡ number_of (refusal_of v)
      → Leaves (answer v values) result before done n before result
  short_left before done v values number =
      let tells = short_told v values number in
      (tells.0, (lent_untouched before done, tells.1))
