-- Two results that are what an entry gives are one. Assumes nothing.
use mathlib.Core.Path.{◌≡◌, sym, ◌∙◌}

abbrev pub One : {A : Type 0} → A → Type 0
One {A} given = (r s : A) → r ≡ given → s ≡ given → r ≡ s

pub one : {A : Type 0} (given : A) → One given
one given r s p q = p ∙ sym q
