-- The ten words of a result slice are the values that were told, and 0 after them: each word stands eight bytes after
-- the one before it, and a number below 2 ^ 64 is read back from eight bytes.
use Prim.Native.Nat.{ℕ, zero, suc, ◌+◌, ◌-◌, ◌*◌, ◌^◌, ◌≤◌, ◌<◌}
use mathlib.Core.Path.{◌≡◌, refl, sym, ap, ◌∙◌}
use mathlib.Core.List.{List, [], ◌∷◌, ◌++◌, append_assoc}
use native.Mathlib.Omega.{arith}
use lib.ListN.{length, take, drop, replicate, length-append, length-replicate}
use lib.Seq.{take_at, drop-append_seam, drop-drop}
use lib.Dec.{lit<}
use Rattle.machine.specs.Bytes.{little_endian_of, number, bytes, splice}
use Rattle.machine.specs.Lists.{tabulate}
use Rattle.machine.specs.Host.{words_of, result_bytes}
use Rattle.machine.proofs.Laws.Bytes.{length_bytes, little_endian_bytes}
use Rattle.result_slice.proofs.Words.{values_in_ten}

-- each value fits a word
pub data FitWords : List ℕ → Type 0 where
  none : FitWords []
  one : {v : ℕ} {vs : List ℕ} → v < 2 ^ 64 → FitWords vs → FitWords (v ∷ vs)

zeros_fit : (k : ℕ) → FitWords (replicate k 0)
zeros_fit zero = none
zeros_fit (suc k) = one (lit< tt) (zeros_fit k)

both_fit : {vs ws : List ℕ} → FitWords vs → FitWords ws → FitWords (vs ++ ws)
both_fit none second = second
both_fit (one h first) second = one h (both_fit first second)

-- words that stand in t from word i on
words_read : (ws t rest : List ℕ) (i : ℕ) → FitWords ws → drop (8 * i) t ≡ words_of ws ++ rest
    → tabulate (λ k. number t (8 * k) 8) i (length ws) ≡ ws
unfolding tabulate words_of number
words_read [] t rest i none stands = refl
words_read (w ∷ ws) t rest i (one h fit) stands =
    let split : drop (8 * i) t ≡ bytes 8 w ++ (words_of ws ++ rest) =
    stands ∙ append_assoc (bytes 8 w) (words_of ws) rest in
    let here : little_endian_of (take 8 (drop (8 * i) t)) ≡ w =
    rw (split, take_at (bytes 8 w) (words_of ws ++ rest) 8 (length_bytes 8 w)) (little_endian_bytes 8 w h) in
    let there : 8 * (i + 1) ≡ 8 * i + length (bytes 8 w) = omega (arith, length_bytes 8 w) in
    let next : drop (8 * (i + 1)) t ≡ words_of ws ++ rest =
    ap (λ (k : ℕ). drop k t) there
    ∙ sym (drop-drop (length (bytes 8 w)) (8 * i) t)
    ∙ ap (drop (length (bytes 8 w))) split
    ∙ drop-append_seam (bytes 8 w) (words_of ws ++ rest) in
    rw here (ap (λ (l : List ℕ). w ∷ l) (words_read ws t rest (i + 1) fit next))

pub values_read : (result values : List ℕ) → length values ≤ 10 → FitWords values
    → tabulate (λ k. number (splice result 0 (result_bytes values)) (8 * k) 8) 0 10
    ≡ values ++ replicate (10 - length values) 0
unfolding splice
values_read result values few fit =
    let zeros : List ℕ = replicate (10 - length values) 0 in
    let ws = values ++ zeros in
    let ten : 10 ≡ length ws =
    omega (arith, length-append values zeros, length-replicate {A = ℕ} (10 - length values) 0) in
    let told = splice result 0 (words_of ws) in
    let fits = both_fit fit (zeros_fit (10 - length values)) in
    rw (← values_in_ten values few)
    (ap (tabulate (λ k. number told (8 * k) 8) 0) ten
    ∙ words_read ws told (drop (0 + length (words_of ws)) result) 0 fits refl)
