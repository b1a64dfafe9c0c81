-- Tests that are all asked: no where one fails, and the last test's answer where the others hold. Assumes nothing.
use mathlib.Core.Path.{◌≡◌, refl}
use mathlib.Core.Bool.{Bool, true, false, ◌&&◌, true≢false, false≢true}

pub fails : (a b : Bool) → a ≡ false → false ≡ (a && b)
fails true b e = absurd (true≢false e)
fails false b e = refl

pub holds : (a b : Bool) → a ≡ true → b ≡ (a && b)
holds true b e = refl
holds false b e = absurd (false≢true e)
