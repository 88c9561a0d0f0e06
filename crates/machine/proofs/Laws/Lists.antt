-- Laws of tests, and of lists by index and by element.
use Prim.Native.Nat.{ℕ, zero, suc, ◌+◌, ◌≤◌, ◌<◌}
use mathlib.Core.Path.{◌≡◌, refl, sym, ap, ap₂, ◌∙◌, subst}
use mathlib.Core.Bool.{Bool, true, false, not, ◌&&◌, ◌||◌, beq, and-true, and_assoc, true≢false, false≢true}
use mathlib.Core.List.{List, [], ◌∷◌, ◌++◌}
use native.Mathlib.Omega.{arith}
use native.Mathlib.Numerals.{add-one}
use lib.ListN.{length, get_or}
use lib.Dec.{eqb}
use borrow.Author.Tests.{eqb-true, eqb-false}
use Rattle.machine.specs.Lists.{tabulate, every, all}

-- ---- conjunctions taken apart, and made

pub and_first : (a b : Bool) → a && b ≡ true → a ≡ true
and_first true b e = refl
and_first false b e = e

pub and_second : (a b : Bool) → a && b ≡ true → b ≡ true
and_second true b e = e
and_second false b e = absurd (let z : ◌≡◌ {A = ℕ} 0 1 = cc in omega arith)

pub and_both : (a b : Bool) → a ≡ true → b ≡ true → a && b ≡ true
and_both a b one other = rw (one, other)

-- ---- two truths that a test finds the same

pub same_bool : (a b : Bool) → beq a b ≡ true → a ≡ b
same_bool true true e = refl
same_bool true false e = absurd (false≢true e)
same_bool false true e = absurd (false≢true e)
same_bool false false e = refl

-- two tests that follow from each other are one
pub same_test : (a b : Bool) → (a ≡ true → b ≡ true) → (b ≡ true → a ≡ true) → a ≡ b
same_test true b to from = sym (to refl)
same_test false true to from = from refl
same_test false false to from = refl

-- ---- alternatives that hold or fail, and one test that follows from another

-- what follows from either side of an `or`
pub either_way : {A : Type 0} (a b : Bool) → (a ≡ true → A) → (b ≡ true → A) → a || b ≡ true → A
either_way true b one other e = one refl
either_way false b one other e = other e

pub or_first : (a b : Bool) → a || b ≡ false → a ≡ false
or_first true b e = e
or_first false b e = refl

pub or_second : (a b : Bool) → a || b ≡ false → b ≡ false
or_second true b e = absurd (true≢false e)
or_second false b e = e

pub follow : (a b : Bool) → not a || b ≡ true → a ≡ true → b ≡ true
follow true b law holds = law
follow false b law holds = absurd (false≢true holds)

-- ---- tabulate

pub length_tabulate : {A : Type 0} (f : ℕ → A) (i n : ℕ) → length (tabulate f i n) ≡ n
unfolding tabulate
length_tabulate f i zero = refl
length_tabulate f i (suc n) = ap suc (length_tabulate f (i + 1) n)

pub get_d_tabulate : {A : Type 0} (f : ℕ → A) (i n k : ℕ) (d : A) → k < n → get_or (tabulate f i n) k d ≡ f (i + k)
unfolding tabulate
get_d_tabulate f i zero k d h = absurd (omega arith)
get_d_tabulate f i (suc n) zero d h = ap f (omega arith)
get_d_tabulate f i (suc n) (suc k) d h = get_d_tabulate f (i + 1) n k d (omega arith) ∙ ap f (omega arith)

-- one more, at the end
pub tabulate_more : {A : Type 0} (f : ℕ → A) (i n : ℕ) → tabulate f i (suc n) ≡ tabulate f i n ++ (f (i + n) ∷ [])
unfolding tabulate
tabulate_more f i zero = ap (λ (k : ℕ). f k ∷ []) (omega arith)
tabulate_more f i (suc n) =
    let e : i + 1 + n ≡ i + suc n = omega arith in
    ap (λ l. f i ∷ l) (tabulate_more f (i + 1) n ∙ ap (λ (k : ℕ). tabulate f (i + 1) n ++ (f k ∷ [])) e)

-- the same at each index
pub tabulate_same : {A : Type 0} (f g : ℕ → A) (i n : ℕ) → ((k : ℕ) → i ≤ k → k < i + n → f k ≡ g k)
    → tabulate f i n ≡ tabulate g i n
unfolding tabulate
tabulate_same f g i zero same = refl
tabulate_same f g i (suc n) same =
    ap₂ (λ x l. x ∷ l) (same i (omega arith) (omega arith))
    (tabulate_same f g (i + 1) n (λ k low high. same k (omega arith) (omega arith)))

-- so many, and then so many more
pub tabulate_add : {A : Type 0} (f : ℕ → A) (i j k : ℕ) → tabulate f i (j + k) ≡ tabulate f i j ++ tabulate f (i + j) k
unfolding tabulate
tabulate_add f i zero k =
    let none : 0 + k ≡ k = omega arith in
    let here : i + 0 ≡ i = omega arith in
    rw (none, here)
tabulate_add f i (suc j) k =
    let more : suc j + k ≡ suc (j + k) = omega arith in
    let there : i + 1 + j ≡ i + suc j = omega arith in
    rw (more, ← there) (ap (λ l. f i ∷ l) (tabulate_add f (i + 1) j k))

-- ---- every

pub every_more : (n : ℕ) (f : ℕ → Bool) → every (n + 1) f ≡ every n f && f n
unfolding every
every_more n f = rw (add-one n)

-- what holds of 0 to n − 1 holds of each
pub every_at : (n : ℕ) (f : ℕ → Bool) → every n f ≡ true → (i : ℕ) → i < n → f i ≡ true
unfolding every
every_at zero f e i h = absurd (omega arith)
every_at (suc n) f e i h = go (eqb i n) refl (λ lower. every_at n f (and_first (every n f) (f n) e) i lower)
  where
    go : (t : Bool) → eqb i n ≡ t → (i < n → f i ≡ true) → f i ≡ true
    go true q below = subst (λ (k : ℕ). f k ≡ true) (sym (eqb-true i n q)) (and_second (every n f) (f n) e)
    go false q below =
        let ne = eqb-false i n q in
        below (omega arith)

-- two tests that agree at every number below a bound, and two numbers
pub alike : (bound : ℕ) (f g : ℕ → Bool) → every bound (λ k. beq (f k) (g k)) ≡ true → (n : ℕ) → n < bound
    → f n ≡ g n
alike bound f g test n h = same_bool (f n) (g n) (every_at bound (λ k. beq (f k) (g k)) test n h)

pub agree : (bound : ℕ) (f g : ℕ → ℕ) → every bound (λ k. eqb (f k) (g k)) ≡ true → (n : ℕ) → n < bound → f n ≡ g n
agree bound f g test n h = eqb-true (f n) (g n) (every_at bound (λ k. eqb (f k) (g k)) test n h)

pub every_same : (n : ℕ) (f g : ℕ → Bool) → ((i : ℕ) → i < n → f i ≡ g i) → every n f ≡ every n g
unfolding every
every_same zero f g same = refl
every_same (suc n) f g same =
    ap₂ (λ (a b : Bool). a && b) (every_same n f g (λ i h. same i (omega arith))) (same n (omega arith))

-- from the front
every_front : (n : ℕ) (f : ℕ → Bool) → every (suc n) f ≡ f 0 && every n (λ i. f (suc i))
unfolding every
every_front zero f = sym (and-true (f 0))
every_front (suc n) f =
    ap (λ (b : Bool). b && f (suc n)) (every_front n f) ∙ and_assoc (f 0) (every n (λ i. f (suc i))) (f (suc n))

-- ---- all

pub every_all : {A : Type 0} (f : A → Bool) (l : List A) (d : A) → every (length l) (λ i. f (get_or l i d)) ≡ all f l
unfolding all every
every_all f [] d = refl
every_all f (x ∷ xs) d =
    every_front (length xs) (λ i. f (get_or (x ∷ xs) i d)) ∙ ap (λ (b : Bool). f x && b) (every_all f xs d)

pub all_at : {A : Type 0} (f : A → Bool) (l : List A) (d : A) → all f l ≡ true → (i : ℕ) → i < length l
    → f (get_or l i d) ≡ true
all_at f l d e i h = every_at (length l) (λ i. f (get_or l i d)) (every_all f l d ∙ e) i h

-- what holds of each holds of all
pub all_each : {A : Type 0} (f : A → Bool) (l : List A) (d : A)
    → ((i : ℕ) → i < length l → f (get_or l i d) ≡ true)
    → all f l ≡ true
unfolding all
all_each f [] d each = refl
all_each f (x ∷ xs) d each = rw (each 0 (omega arith)) (all_each f xs d (λ i h. each (suc i) (omega arith)))

pub all_more : {A : Type 0} (f : A → Bool) (l : List A) (x : A) → all f (l ++ (x ∷ [])) ≡ all f l && f x
unfolding all
all_more f [] x = and-true (f x)
all_more f (y ∷ ys) x = ap (λ (b : Bool). f y && b) (all_more f ys x) ∙ sym (and_assoc (f y) (all f ys) (f x))
