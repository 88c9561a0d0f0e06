-- Laws of joins: one more piece, how long pieces of one width are together, and a stretch of these. By induction on how
-- many there are.
use Prim.Native.Nat.{ℕ, zero, suc, ◌+◌, ◌-◌, ◌*◌, ◌≤◌, ◌<◌}
use mathlib.Core.Path.{◌≡◌, refl, sym, ap, ◌∙◌}
use mathlib.Core.List.{List, [], ◌∷◌, ◌++◌, append_assoc, append-nil}
use native.Mathlib.Omega.{arith}
use native.Mathlib.Numerals.{add-one}
use lib.ListN.{length, take, length-append}
use lib.Seq.{take_at, drop_at}
use Rattle.machine.specs.Bytes.{part}
use Rattle.machine.specs.Lists.{tabulate, join}
use Rattle.machine.proofs.Laws.Lists.{tabulate_more, tabulate_same, tabulate_add}

-- two rows of pieces
pub join_append : (xs ys : List (List ℕ)) → join (xs ++ ys) ≡ join xs ++ join ys
unfolding join
join_append [] ys = refl
join_append (x ∷ xs) ys =
    ap (λ (l : List ℕ). x ++ l) (join_append xs ys) ∙ sym (append_assoc x (join xs) (join ys))

-- one more piece, at the end
pub join_more : (f : ℕ → List ℕ) (i n : ℕ) → join (tabulate f i (n + 1)) ≡ join (tabulate f i n) ++ f (i + n)
unfolding join
join_more f i n =
    rw (add-one n, tabulate_more f i n, join_append (tabulate f i n) (f (i + n) ∷ []))
    (ap (λ (l : List ℕ). join (tabulate f i n) ++ l) (append-nil (f (i + n))))

-- pieces of one width
pub length_joined : (f : ℕ → List ℕ) (w i n : ℕ) → ((b : ℕ) → i ≤ b → b < i + n → length (f b) ≡ w)
    → length (join (tabulate f i n)) ≡ w * n
unfolding join tabulate
length_joined f w i zero wide = omega arith
length_joined f w i (suc n) wide =
    let here = wide i (omega arith) (omega arith) in
    let rest = length_joined f w (i + 1) n (λ b low high. wide b (omega arith) (omega arith)) in
    rw (length-append (f i) (join (tabulate f (i + 1) n))) (omega arith)

-- the same pieces
pub joined_same : (f g : ℕ → List ℕ) (i n : ℕ) → ((b : ℕ) → i ≤ b → b < i + n → f b ≡ g b)
    → join (tabulate f i n) ≡ join (tabulate g i n)
joined_same f g i n same = ap join (tabulate_same f g i n same)

-- a stretch of pieces of one width
pub part_pieces : (f : ℕ → List ℕ) (w i n k m : ℕ) → ((b : ℕ) → length (f b) ≡ w) → k + m ≤ n
    → part (join (tabulate f i n)) (w * k) (w * m) ≡ join (tabulate f (i + k) m)
part_pieces f w i n k m wide h =
    let r = n - (k + m) in
    let all : n ≡ k + (m + r) = omega arith in
    let before = join (tabulate f i k) in
    let these = join (tabulate f (i + k) m) in
    let behind = join (tabulate f (i + k + m) r) in
    let apart : join (tabulate f i n) ≡ before ++ (these ++ behind) =
    ap (λ (c : ℕ). join (tabulate f i c)) all
    ∙ ap join (tabulate_add f i k (m + r))
    ∙ join_append (tabulate f i k) (tabulate f (i + k) (m + r))
    ∙ ap (λ (l : List ℕ). before ++ l)
    (ap join (tabulate_add f (i + k) m r) ∙ join_append (tabulate f (i + k) m) (tabulate f (i + k + m) r)) in
    ap (λ (l : List ℕ). part l (w * k) (w * m)) apart
    ∙ ap (take (w * m)) (drop_at before (these ++ behind) (w * k) (length_joined f w i k (λ b low high. wide b)))
    ∙ take_at these behind (w * m) (length_joined f w (i + k) m (λ b low high. wide b))
