-- An event's test, of its eight bytes as one number: either code and zeros are 0, and any message may follow them; or
-- the number, which is then more than the process, is below 256 times the codes only if all above the code is 0.
use Prim.Native.Nat.{ℕ, ◌+◌, ◌*◌, ◌%◌, ◌≤◌, ◌<◌}
use mathlib.Core.Path.{◌≡◌, refl, ◌∙◌}
use mathlib.Core.Logic.{◌⊎◌, inl, inr, ⊎_elim}
use mathlib.Core.List.{List}
use mathlib.Core.Bool.{Bool, true, ◌&&◌, ◌||◌, or-true}
use native.Mathlib.Omega.{arith}
use lib.ListN.{get_or}
use lib.Dec.{eqb, ltb}
use borrow.Author.Tests.{ltb-true, eqb-true, lt-ltb, eq-eqb}
use Rattle.machine.specs.Bytes.{Bytes, number}
use Rattle.machine.specs.Refusals.{event_fits}
use Rattle.machine.proofs.Laws.Bytes.{number_4, number_8}
use Rattle.machine.proofs.Laws.Lists.{and_first, and_second, and_both, same_test, either_way}
use Rattle.event.proofs.Bytes.{fits_read}

module _ (s : List ℕ) (at n codes : ℕ) where
  abbrev process : ℕ
  process = get_or s at 0

  abbrev code : ℕ
  code = get_or s (at + 1) 0

  abbrev third : ℕ
  third = get_or s (at + 2) 0

  abbrev fourth : ℕ
  fourth = get_or s (at + 3) 0

  abbrev message : ℕ
  message = number s (at + 4) 4

  -- what the rule asks, as a test, and beside the process as facts
  abbrev tests : Bool
  tests = ltb process n && ltb code codes && (eqb third 0 && eqb fourth 0) && (eqb code 0 || eqb message 0)

  record Beside : Type 0 where
    known : code < codes
    zero : third ≡ 0
    nil : fourth ≡ 0
    silent : (code ≡ 0) ⊎ (message ≡ 0)

  module _ (bytes : Bytes s) (few : codes < 256) {word : ℕ} (is : word ≡ number s at 8) where
    sum : word ≡ process + 256 * code + 65536 * third + 16777216 * fourth + 4294967296 * message
    sum = omega (arith, is, number_8 s at, number_4 s at)

    first : word % 256 ≡ process
    first = omega (arith, sum, bytes at)

    -- a number that is small exactly where the rest is as the rule asks
    by_rest : (m : ℕ) → (m < 256 * codes → Beside) → (Beside → m < 256 * codes)
        → ltb (word % 256) n && ltb m (256 * codes) ≡ event_fits codes n s at
    by_rest m means meant = rw first (same_test (ltb process n && ltb m (256 * codes)) tests to from)
        ∙ fits_read s at refl refl n codes
      where
        to : ltb process n && ltb m (256 * codes) ≡ true → tests ≡ true
        to e =
            let r = means (ltb-true m (256 * codes) (and_second (ltb process n) _ e)) in
            rw (
              and_first (ltb process n) _ e,
              lt-ltb code codes r.known,
              eq-eqb third 0 r.zero,
              eq-eqb fourth 0 r.nil,
            ) (⊎_elim (λ q. rw (eq-eqb code 0 q)) (λ q. rw (eq-eqb message 0 q) (or-true (eqb code 0))) r.silent)

        from : tests ≡ true → ltb process n && ltb m (256 * codes) ≡ true
        from e =
            let three = and_first (ltb process n && ltb code codes && (eqb third 0 && eqb fourth 0)) _ e in
            let two = and_first (ltb process n && ltb code codes) _ three in
            let zeros = and_second (ltb process n && ltb code codes) _ three in
            let last = and_second (ltb process n && ltb code codes && (eqb third 0 && eqb fourth 0)) _ e in
            let rest : Beside =
            record {
              known = ltb-true code codes (and_second (ltb process n) _ two);
              zero = eqb-true third 0 (and_first (eqb third 0) _ zeros);
              nil = eqb-true fourth 0 (and_second (eqb third 0) _ zeros);
              silent =
                  either_way (eqb code 0) (eqb message 0) (λ q. inl (eqb-true code 0 q))
                  (λ q. inr (eqb-true message 0 q)) last;
            } in
            and_both _ _ (and_first (ltb process n) _ two) (lt-ltb m (256 * codes) (meant rest))

    -- where code and zeros are 0
    pub alone_fits : word % 4294967296 < 256 → ltb (word % 256) n && ltb 0 (256 * codes) ≡ event_fits codes n s at
    alone_fits h = by_rest 0 means (λ r. omega (arith, r.known))
      where
        nothing : (code ≡ 0) × (third ≡ 0) × (fourth ≡ 0)
        nothing = omega (arith, sum, bytes at, bytes (at + 1), bytes (at + 2), bytes (at + 3))

        means : 0 < 256 * codes → Beside
        means v =
            record {
              known = omega (arith, nothing.0);
              zero = nothing.1;
              nil = nothing.2;
              silent = inl nothing.0;
            }

    -- where they aren't
    pub whole_fits : 256 ≤ word % 4294967296 → ltb (word % 256) n && ltb word (256 * codes) ≡ event_fits codes n s at
    whole_fits h = by_rest word means meant
      where
        means : word < 256 * codes → Beside
        means v =
            record {
              known = omega (arith, sum);
              zero = omega (arith, sum);
              nil = omega (arith, sum);
              silent = inr (omega (arith, sum));
            }

        meant : Beside → word < 256 * codes
        meant r =
            ⊎_elim (λ q. absurd (omega (arith, sum, q, r.zero, r.nil, bytes at)))
            (λ q. omega (arith, sum, q, r.zero, r.nil, r.known, bytes at)) r.silent
