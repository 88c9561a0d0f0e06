-- The words of a result slice: ten times eight bytes, joined, are ten words; and zeros up to byte 80 are words of 0, so
-- up to ten values are told as ten words.
use Prim.Native.Nat.{ℕ, zero, suc, ◌+◌, ◌-◌, ◌*◌, ◌≤◌, ◌<◌}
use mathlib.Core.Path.{◌≡◌, refl, sym, ap, ◌∙◌}
use mathlib.Core.List.{List, [], ◌∷◌, ◌++◌, append_assoc, append-nil}
use native.Mathlib.Omega.{arith}
use lib.ListN.{length, get_or, replicate, length-append, length-replicate, replicate-append-replicate}
use lib.ListN.{drop_of_length-le}
use Rattle.std.specs.List.{flat_map}
use Rattle.std.specs.Array.{IsMapOf}
use Rattle.std.specs.Fn.{Mut, Called}
use Rattle.machine.specs.Bytes.{bytes, splice}
use Rattle.numbers.specs.Values.{InTen}
use Rattle.machine.specs.Host.{words_of, result_bytes}
use Rattle.machine.proofs.Laws.Bytes.{length_bytes}

-- ---- words

pub length_words : (ws : List ℕ) → length (words_of ws) ≡ 8 * length ws
unfolding words_of
length_words [] = refl
length_words (w ∷ ws) = length-append (bytes 8 w) (words_of ws) ∙ omega (arith, length_bytes 8 w, length_words ws)

words_append : (vs ws : List ℕ) → words_of (vs ++ ws) ≡ words_of vs ++ words_of ws
unfolding words_of
words_append [] ws = refl
words_append (v ∷ vs) ws =
    ap (λ (l : List ℕ). bytes 8 v ++ l) (words_append vs ws)
    ∙ sym (append_assoc (bytes 8 v) (words_of vs) (words_of ws))

-- words of 0 are zeros
words_of_zero : (k : ℕ) → words_of (replicate k 0) ≡ replicate (8 * k) 0
unfolding words_of bytes
words_of_zero zero = refl
words_of_zero (suc k) =
    let eight : 8 * suc k ≡ 8 + 8 * k = omega arith in
    rw (words_of_zero k, eight) (replicate-append-replicate {A = ℕ} 8 (8 * k) 0)

-- ---- eight bytes each, made by a closure and joined by the library

joined : (ws : List ℕ) (eights : List (List ℕ)) → length eights ≡ length ws
    → ((i : ℕ) → i < length ws → get_or eights i [] ≡ bytes 8 (get_or ws i 0))
    → flat_map (λ eight. eight) eights ≡ words_of ws
unfolding words_of
joined [] [] same each = refl
joined [] (eight ∷ eights) same each = absurd (omega (arith, same))
joined (w ∷ ws) [] same each = absurd (omega (arith, same))
joined (w ∷ ws) (eight ∷ eights) same each =
    let here : eight ≡ bytes 8 w = each 0 (omega arith) in
    let rest : flat_map (λ eight. eight) eights ≡ words_of ws =
    joined ws eights (omega (arith, same)) (λ i below. each (suc i) (omega (arith, below))) in
    rw (here, rest) refl

-- where each call of the closure gives a word's bytes
pub words_joined : {F : Type 0} (g : Mut F (ℕ × Unit {0}) (List ℕ)) {f : F} {n : ℕ} (ws : List ℕ)
    {eights : List (List ℕ)} → length ws ≡ n → IsMapOf g f ws eights n
    → ((p : F) (w : ℕ) (eight : List ℕ) (q : F) → Called g p (w, tt) eight q → eight ≡ bytes 8 w)
    → flat_map (λ eight. eight) eights ≡ words_of ws
words_joined g {f} {n} ws {eights} long made each =
    joined ws eights (omega (arith, long, made.long)) (λ i below.
    let called = made.at i 0 [] (omega (arith, below, long)) in
    each called.0 _ _ called.1 called.2)

-- ---- what a call tells

-- up to ten values, and words of 0 up to the tenth
pub values_in_ten : (values : List ℕ) → length values ≤ 10
    → words_of (values ++ replicate (10 - length values) 0) ≡ result_bytes values
unfolding result_bytes
values_in_ten values few =
    let rest : 80 - length (words_of values) ≡ 8 * (10 - length values) = omega (arith, length_words values) in
    rw (rest, words_append values (replicate (10 - length values) 0), words_of_zero (10 - length values))

-- the same of ten words that hold them
pub values_told : (values : List ℕ) {words : List ℕ} → InTen values words → words_of words ≡ result_bytes values
values_told values ten = rw ten.1 (values_in_ten values ten.0)

-- and where they are written over a slice
pub told_in_ten : (result values : List ℕ) {t : List ℕ} → length values ≤ 10
    → t ≡ splice result 0 (words_of (values ++ replicate (10 - length values) 0))
    → t ≡ splice result 0 (result_bytes values)
told_in_ten result values few wrote = wrote ∙ ap (splice result 0) (values_in_ten values (omega arith))

-- which has 80 bytes, so that they are all of it
pub told_in_array : (result values : List ℕ) {words t : List ℕ} → length result ≡ 80 → InTen values words
    → t ≡ splice result 0 (words_of words)
    → t ≡ result_bytes values
unfolding splice
told_in_array result values {words} {t} long ten wrote =
    let over : t ≡ splice result 0 (result_bytes values) =
    told_in_ten result values (omega (arith, ten.0))
    (wrote ∙ ap (λ (ws : List ℕ). splice result 0 (words_of ws)) ten.1) in
    let rest = length-append values (replicate (10 - length values) 0) in
    let zeros : length (replicate {A = ℕ} (10 - length values) 0) ≡ 10 - length values =
    length-replicate {A = ℕ} (10 - length values) 0 in
    let ten_words : length words ≡ 10 = ap length ten.1 ∙ omega (arith, rest, zeros, ten.0) in
    let all : length (result_bytes values) ≡ length result =
    ap length (sym (values_told values ten)) ∙ length_words words ∙ omega (arith, ten_words, long) in
    over ∙ rw (drop_of_length-le result {i = 0 + length (result_bytes values)} (omega (arith, all)))
    (append-nil (result_bytes values))
