-- What is packed is read back: one law over a field's place and width, cited at each of the five. Assumes nothing.
use mathlib.Core.Path.{◌≡◌, refl, ap, ◌∙◌}
use Prim.Native.Nat.{ℕ, ◌+◌, ◌*◌, ◌%◌, ◌^◌, ◌<◌}
use native.Mathlib.Nat.{mod-lt}
use native.Mathlib.Omega.{arith}
use lib.Pow.{high, low, pow_pos}
use mir.Syntax.{w8, w16}
use mir.Val.{SFits}
use mir.Facts.{to_z-of_z, Fits-of_z, sfits_to_z}
use Rattle.score.specs.Bits.{bits_of}
use Rattle.transposition.specs.Word.{field, bound_byte, bound_of, data_word, entry_of}
use Rattle.transposition.specs.declared.Bound.{Bound}
use Rattle.transposition.specs.declared.Bound.TheVariants.{Exact, Lower, Upper}
use Rattle.transposition.specs.declared.Entry.{Entry}

-- x at place k, w bits wide, with lo below it and hi above it
pub packed : (k w hi : ℕ) {x lo : ℕ} → x < 2 ^ w → lo < 2 ^ k → field k w ((hi * 2 ^ w + x) * 2 ^ k + lo) ≡ x
packed k w hi {x} {lo} hx hl = ap (λ (n : ℕ). n % 2 ^ w) (high (hi * 2 ^ w + x) k hl) ∙ low hi w hx

-- what is read at a width fits it
pub field_fits : (k w n : ℕ) → field k w n < 2 ^ w
field_fits k w n = mod-lt _ (pow_pos w)

-- an entry whose fields fit their places
pub record Valid (e : Entry) : Type 0 where
  pub age : e.age < 2 ^ 8
  pub depth : SFits w8 e.depth
  pub score : SFits w16 e.score
  pub mv : e.mv < 2 ^ 16

pub bound_back : (b : Bound) → bound_of (bound_byte b) ≡ b
unfolding bound_of
bound_back Exact = refl
bound_back Lower = refl
bound_back Upper = refl

bound_fits : (b : Bound) → bound_byte b < 2 ^ 8
bound_fits Exact = omega arith
bound_fits Lower = omega arith
bound_fits Upper = omega arith

module _ (a b d s m : ℕ) (ha : a < 2 ^ 8) (hb : b < 2 ^ 8) (hd : d < 2 ^ 8) (hs : s < 2 ^ 16) (hm : m < 2 ^ 16) where
  abbrev sum : ℕ
  sum = a * 2 ^ 8 + b * 2 ^ 16 + d * 2 ^ 24 + s * 2 ^ 32 + m * 2 ^ 48

  five : (field 8 8 sum ≡ a) × (field 16 8 sum ≡ b) × (field 24 8 sum ≡ d) × (field 32 16 sum ≡ s) × (field 48 16 sum ≡ m)
  five = (
    at 8 8 (b + d * 2 ^ 8 + s * 2 ^ 16 + m * 2 ^ 32) a 0 (omega arith) ha (omega arith),
    at 16 8 (d + s * 2 ^ 8 + m * 2 ^ 24) b (a * 2 ^ 8) (omega arith) hb (omega arith),
    at 24 8 (s + m * 2 ^ 16) d (a * 2 ^ 8 + b * 2 ^ 16) (omega arith) hd (omega arith),
    at 32 16 m s (a * 2 ^ 8 + b * 2 ^ 16 + d * 2 ^ 24) (omega arith) hs (omega arith),
    at 48 16 0 m (a * 2 ^ 8 + b * 2 ^ 16 + d * 2 ^ 24 + s * 2 ^ 32) (omega arith) hm (omega arith),
  )
    where
      at : (k w hi x lo : ℕ) → sum ≡ (hi * 2 ^ w + x) * 2 ^ k + lo → x < 2 ^ w → lo < 2 ^ k → field k w sum ≡ x
      at k w hi x lo q hx hl = ap (field k w) q ∙ packed k w hi hx hl

-- reading back what was packed gives the entry
pub read_back : (e : Entry) → Valid e → entry_of (data_word e) ≡ e
unfolding entry_of data_word
read_back e v =
    let f = five e.age (bound_byte e.bound) (bits_of w8 e.depth) (bits_of w16 e.score) e.mv v.age (bound_fits e.bound) (Fits-of_z v.depth).fits (Fits-of_z v.score).fits v.mv in
    simp (f.0, f.1, f.2, f.3, f.4, bound_back e.bound, to_z-of_z v.depth, to_z-of_z v.score)

-- what a word holds fits, whatever the word is
pub entry_valid : (n : ℕ) → Valid (entry_of n)
unfolding entry_of
entry_valid n =
    record {
      age = field_fits 8 8 n;
      depth = sfits_to_z (record { fits = field_fits 24 8 n });
      score = sfits_to_z (record { fits = field_fits 32 16 n });
      mv = field_fits 48 16 n;
    }
