-- History: 8,192 lent entries, the place of a move among them, and what each operation leaves. Assumes nothing.
use Rattle.std.specs.Prelude.{Bool, List, ℕ, ◌+◌, ◌*◌, ◌/◌, ◌%◌, leb, ℤ, pos, neg_ℤ, nat_abs, length, get_or, set, replicate}
use Rattle.std.specs.List.{list_all}
use Rattle.history.specs.Gravity.{delta_of, gravity_of}

-- 01, The tree: "Move / 1024 is the from square"
abbrev pub from_of : ℕ → ℕ
from_of mv = mv / 1024

-- 01, The tree: "move / 16 modulo 64 the to square"
abbrev pub to_of : ℕ → ℕ
to_of mv = mv / 16 % 64

-- 01, History and clock: "Index: 4,096 * side + 64 * from + to"
unfoldable pub index_of : ℕ → ℕ → ℕ
index_of side mv = 4096 * side + 64 * from_of mv + to_of mv

-- 01, History and clock: "New = old + v - old*|v|/HH_MAX", at the move's entry and at no other
unfoldable pub update_of : ℕ → List ℤ → ℕ → ℕ → ℤ → List ℤ
update_of hh h side mv v = set h (index_of side mv) (gravity_of hh (get_or h (index_of side mv) (pos 0)) v)

-- 01, History and clock: "v is delta", where a move gets a bonus
unfoldable pub bonus_of : ℕ → List ℤ → ℕ → ℕ → ℤ → List ℤ
bonus_of hh h side mv depth = update_of hh h side mv (pos (delta_of hh depth))

-- 01, History and clock: "or its negation", where it gets a malus
unfoldable pub malus_of : ℕ → List ℤ → ℕ → ℕ → ℤ → List ℤ
malus_of hh h side mv depth = update_of hh h side mv (neg_ℤ (pos (delta_of hh depth)))

-- 01, Visits: "The root search zeroes history"
unfoldable pub clear_of : List ℤ → List ℤ
clear_of h = replicate (length h) (pos 0)

-- 01, Refusal numbers, 9, where it is not given: "a history entry beyond plus or minus HH_MAX"
unfoldable pub within_of : ℕ → List ℤ → Bool
within_of hh h = list_all (λ x. leb (nat_abs x) hh) h
