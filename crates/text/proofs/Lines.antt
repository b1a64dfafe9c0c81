-- The parts of a line, put one behind the other. Assumes nothing.
use Rattle.std.proofs.Common.{refl, ◌≡◌, ℕ, ◌<◌, ◌^◌, Bool, true, false, List, [], ◌++◌, ap, ◌∙◌, append_assoc, arith}
use Rattle.std.specs.Fmt.{decimal as printed, signed_decimal as printed_signed}
use mir.Val.{bool_byte}
use lib.Signed.{mag}
use Rattle.refusal.specs.declared.Refusal.{Refusal}
use Rattle.refusal.specs.declared.Refusal.TheVariants.{Length, Blocks, Layout, Fields, Levels, Settings, Start, Sizes, Entries, Clock, Rate}
use Rattle.refusal.specs.Number.{number_of}
use Rattle.table.specs.declared.Stats.{Stats}
use Rattle.text.specs.Text.{ascii, decimal, signed, mark_of, found_text, spent_text, answer_line, refused_line, line_of, line_by}
use Rattle.text.proofs.Digits.{same_decimal, same_signed}
use Rattle.results.specs.Told.{RootResult, root_refused}

pub refused : {a b : List ℕ} (n : ℕ) → n < 2 ^ 64 → a ≡ [] ++ (ascii "refused " ++ printed n) → b ≡ a ++ ascii "\n" → b ≡ refused_line n
unfolding refused_line
refused {a} {b} n h p q = q ∙ ap (λ x. x ++ ascii "\n") (p ∙ ap (λ x. ascii "refused " ++ x) (same_decimal n h))

five : (s m d n t : List ℕ) → (((s ++ m) ++ d) ++ n) ++ t ≡ (s ++ m) ++ ((d ++ n) ++ t)
five s m d n t = ap (λ x. x ++ t) (append_assoc (s ++ m) d n) ∙ append_assoc (s ++ m) (d ++ n) t

-- what each number of a result fits
pub record Fit (r : RootResult) : Type 0 where
  pub score : mag r.score < 2 ^ 15
  pub mv : r.mv < 2 ^ 64
  pub depth : r.depth < 2 ^ 64
  pub nodes : r.nodes < 2 ^ 64

pub answered : {a b c d e f : List ℕ} (r : RootResult) → Fit r
    → a ≡ [] ++ (ascii "score " ++ printed_signed r.score)
    → b ≡ a ++ (ascii " move " ++ printed r.mv)
    → c ≡ b ++ (ascii " depth " ++ printed r.depth)
    → d ≡ c ++ (ascii " nodes " ++ printed r.nodes)
    → e ≡ d ++ (ascii " stopped " ++ printed (bool_byte r.stopped))
    → f ≡ e ++ ascii "\n"
    → f ≡ answer_line r
unfolding answer_line found_text spent_text
answered {a} {b} {c} {d} {e} {f} r fit p q s t u v =
    let score = same_signed r.score fit.score in
    let mv = same_decimal r.mv fit.mv in
    let depth = same_decimal r.depth fit.depth in
    let nodes = same_decimal r.nodes fit.nodes in
    let stopped : printed (bool_byte r.stopped) ≡ decimal (mark_of r.stopped) = below r.stopped in
    let whole = five (ascii "score " ++ signed r.score) (ascii " move " ++ decimal r.mv) (ascii " depth " ++ decimal r.depth) (ascii " nodes " ++ decimal r.nodes)
    (ascii " stopped " ++ decimal (mark_of r.stopped)) in
    cc
  where
    below : (b : Bool) → printed (bool_byte b) ≡ decimal (mark_of b)
    below true = same_decimal 1 (omega arith)
    below false = same_decimal 0 (omega arith)

-- a refusal's line is the number's
pub line_refused : (r : Refusal) (c : Stats) → refused_line (number_of r) ≡ line_of (root_refused (number_of r) c)
unfolding line_by
line_refused Length c = refl
line_refused Blocks c = refl
line_refused Layout c = refl
line_refused Fields c = refl
line_refused Levels c = refl
line_refused Settings c = refl
line_refused Start c = refl
line_refused Sizes c = refl
line_refused Entries c = refl
line_refused Clock c = refl
line_refused Rate c = refl
