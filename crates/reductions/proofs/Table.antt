-- The code's table, row by row, is the list of specs/. Assumes nothing.
use Rattle.std.proofs.Common.{◌≡◌, ℕ, zero, suc, ◌+◌, ◌*◌, ◌<◌, ◌≤◌, List, [], ◌∷◌, take, drop, get_or, refl, ap, ◌∙◌, arith}
use Rattle.std.proofs.lemmas.List.{drop-drop, get_or-take, get_or-drop}
use Rattle.reductions.specs.declared.lmr.TheConstants.{LMR}
use Rattle.reductions.specs.Reductions.{reductions, entry_of}

-- the first n rows of 64 of a list
unfoldable rows : ℕ → List ℕ → List (List ℕ)
rows zero xs = []
rows (suc n) xs = take 64 xs ∷ rows n (drop 64 xs)

same : LMR ≡ rows 32 reductions
unfolding rows reductions
same = refl

row : (n d : ℕ) (xs : List ℕ) → d < n → get_or (rows n xs) d [] ≡ take 64 (drop (d * 64) xs)
unfolding rows
row zero d xs l = absurd (omega arith)
row (suc n) zero xs l = refl
row (suc n) (suc d) xs l = row n d (drop 64 xs) (omega arith) ∙ ap (take 64) (drop-drop (d * 64) 64 xs) ∙ ap (λ k. take 64 (drop k xs)) next
  where
    next : 64 + d * 64 ≡ suc d * 64
    next = omega arith

pub the_entry : (d m : ℕ) → d ≤ 31 → m ≤ 63 → get_or (get_or LMR d []) m 0 ≡ entry_of d m
the_entry d m hd hm =
    ap (λ (t : List (List ℕ)). get_or (get_or t d []) m 0) same
    ∙ ap (λ (r : List ℕ). get_or r m 0) (row 32 d reductions (omega arith))
    ∙ get_or-take 64 (drop (d * 64) reductions) m 0 (omega arith) ∙ get_or-drop (d * 64) reductions m 0
