-- Bytes put into a line one after the other. Assumes nothing.
use Rattle.std.proofs.Common.{◌≡◌, ℕ, ◌+◌, ◌<◌, List, length, get_or, drop, sym, ap, ◌∙◌, add-one, drop-cons}
use lib.Seq.{drop-length}
use Rattle.probe_text.specs.declared.text.Line.{Line}
use Rattle.probe_text.specs.Line.{put, puts}

-- the bytes from i on are the i-th, and those from the next on
pub puts_next : (s : List ℕ) (i : ℕ) (l : Line) → i < length s → puts (drop (i + 1) s) (put (get_or s i 0) l) ≡ puts (drop i s) l
unfolding puts
puts_next s i l h = ap (λ (k : ℕ). puts (drop k s) (put (get_or s i 0) l)) (add-one i) ∙ sym (ap (λ (r : List ℕ). puts r l) (drop-cons s i 0 h))

-- none are left after the last
pub puts_end : (s : List ℕ) (i : ℕ) (l : Line) → i ≡ length s → puts (drop i s) l ≡ l
unfolding puts
puts_end s i l e = ap (λ (k : ℕ). puts (drop k s) l) e ∙ ap (λ (r : List ℕ). puts r l) (drop-length s)
