-- What ringrun writes depends on no more of its input than it reads: one byte more than can be accepted shows that
-- there is too much, and what is then refused is N, the home or the length.
use Rattle.std.specs.Prelude.{Err, Ok}
use Prim.Native.Nat.{ℕ, ◌≤◌, ◌<◌}
use mathlib.Core.Path.{◌≡◌, refl, sym, ap, ◌∙◌}
use mathlib.Core.List.{List, []}
use mathlib.Core.Logic.{◌⊎◌, inl, inr}
use native.Mathlib.Omega.{arith}
use lib.ListN.{length, take, length-drop}
use lib.Seq.{take_all, get_or-take, length-take-le}
use lib.Dec.{lit<}
use borrow.Author.Tests.{lt-leb}
use Rattle.machine.specs.declared.Refusal.{Refusal}
use Rattle.machine.specs.declared.Refusal.TheVariants as refusal
use Rattle.machine.specs.Verdict.{Verdict}
use Rattle.machine.specs.Refusals.{or_else, size_verdict, home_verdict}
use Rattle.machine.specs.Report.{few_verdict, report_verdict, text_by, report_text, size_given, home_given, tape_given}
use Rattle.machine.proofs.Laws.Bytes.{lt_or_ge}

-- one byte more than N, home and 64 blocks
abbrev pub most_read : ℕ
most_read = 32771

-- a refusal's text doesn't depend on what would be written if nothing were refused
refused_anyway : (a b : Verdict) (r : Refusal) (s t : List ℕ)
    → text_by (or_else a (or_else b (Err r))) s ≡ text_by (or_else a (or_else b (Err r))) t
refused_anyway (Ok _) (Ok _) r s t = refl
refused_anyway (Ok _) (Err q) r s t = refl
refused_anyway (Err q) b r s t = refl

-- more than 64 blocks
few_refused : (tape : List ℕ) → 32768 < length tape → few_verdict tape ≡ Err refusal.Length
unfolding few_verdict
few_refused tape h = rw (lt-leb (length tape) 32768 h)

-- N and home alone decide which refusal it is
pub too_long : (input : List ℕ) → 32770 < length input
    → report_text input
    ≡ text_by (or_else (size_verdict (size_given input))
    (or_else (home_verdict (size_given input) (home_given input)) (Err refusal.Length))) []
unfolding report_text report_verdict
too_long input h =
    let long = few_refused (tape_given input) (rw (length-drop 2 input) (omega arith)) in
    rw long
    (refused_anyway (size_verdict (size_given input)) (home_verdict (size_given input) (home_given input))
    refusal.Length _
    [])

pub read_enough : (input : List ℕ) → report_text (take most_read input) ≡ report_text input
read_enough input = go (lt_or_ge most_read (length input))
  where
    go : (most_read < length input) ⊎ (length input ≤ most_read) → report_text (take most_read input)
        ≡ report_text input
    go (inl more) =
        let long = length-take-le most_read input (omega arith) in
        let n = get_or-take most_read input 0 0 (lit< tt) in
        let home = get_or-take most_read input 1 0 (lit< tt) in
        too_long (take most_read input) (omega arith)
        ∙ rw (n, home) (sym (too_long input (omega arith)))
    go (inr all) = ap report_text (take_all most_read input all)
