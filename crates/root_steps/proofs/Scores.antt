-- The last two of three scores. Assumes nothing.
use Rattle.std.proofs.Common.{◌≡◌, List, [], ◌∷◌, length, take, get_or, ℤ, pos, refl}

pub newest : (s : List ℤ) → length s ≡ 3 → take 2 s ≡ get_or s 0 (pos 0) ∷ get_or s 1 (pos 0) ∷ []
newest (x ∷ y ∷ rest) h = refl
newest (x ∷ []) h = cc
newest [] h = cc
