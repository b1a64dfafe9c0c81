-- What a read's answer says, by its case; bytes read are some, and no more than there was room for. Assumes nothing.
use mathlib.Core.Path.{◌≡◌, refl, sym, ap, ◌∙◌}
use mathlib.Core.List.{List, ◌++◌, append_assoc}
use Prim.Native.Nat.{ℕ, zero, suc, ◌+◌, ◌-◌, ◌≤◌, ◌<◌, min}
use native.Mathlib.Omega.{arith}
use lib.ListN.{length, take, drop, length-drop}
use lib.Seq.{length-take-le}
use Rattle.std.proofs.Math.Seq.{take-append-add}
use Rattle.std.proofs.lemmas.List.{take-append-le}
use Rattle.std.specs.Prelude.{Ok, Err, None, Some}
use Rattle.std.specs.Io.{ReadsAtMost}
use Rattle.std.specs.Io.KnownBytes.{Consumes, IsAtEnd, ReadConsumes}
use Rattle.std.specs.declared.option.Option.{Option}
use Rattle.std.specs.declared.result.Result.{Result}
use Rattle.adjudicate.specs.Input.{step_of}

pub step_more : {E : Type 0} (r : Result ℕ E) (k n : ℕ) → r ≡ Ok k → (k ≡ 0 → ⊥) → step_of r n ≡ Ok (Some (min k n))
unfolding step_of
step_more r zero n e h = absurd (h refl)
step_more r (suc k) n e h = rw e

pub step_failed : {E : Type 0} (r : Result ℕ E) (x : E) (n : ℕ) → r ≡ Err x → step_of r n ≡ Err x
unfolding step_of
step_failed r x n e = rw e

pub step_end : {E : Type 0} (r : Result ℕ E) (k n : ℕ) → r ≡ Ok k → k ≡ 0 → step_of r n ≡ Ok None
unfolding step_of
step_end r zero n e h = rw e
step_end r (suc k) n e h = absurd (omega arith)

takes : {E : Type 0} (r : Result ℕ E) (n m : ℕ) → step_of r n ≡ Ok (Some m) → 0 < n → (0 < m) × (m ≤ n)
unfolding step_of
takes (Ok zero) n m e l = let z : ◌≡◌ {A = ℕ} 0 1 = cc in absurd (omega arith)
takes (Ok (suc k)) n m e l = let q : min (suc k) n ≡ m = cc in (omega arith, omega arith)
takes (Err x) n m e l = let z : ◌≡◌ {A = ℕ} 0 1 = cc in absurd (omega arith)

-- a read into the rest of a buffer takes a byte at least, and no more than there is room for
pub step_takes : {E : Type 0} (r : Result ℕ E) (buf : List ℕ) (done m : ℕ) → step_of r (length (take (length buf - done) (drop done buf))) ≡ Ok (Some m) → done < length buf
    → (0 < m) × (done + m ≤ length buf)
step_takes r buf done m e l =
    let room : length (take (length buf - done) (drop done buf)) ≡ length buf - done = length-take-le (length buf - done) (drop done buf) (simp length-drop (omega arith)) in
    let t = takes r (length (take (length buf - done) (drop done buf))) m e (omega (arith, room)) in
    (t.0, omega (arith, room, t.1))

-- bytes read behind bytes read
pub consumes_both : (a b c : Option (List ℕ)) (x y : List ℕ) → Consumes a b x → Consumes b c y → Consumes a c (x ++ y)
consumes_both None b c x y p q = tt
consumes_both (Some a) None c x y p q = absurd p
consumes_both (Some a) (Some b) None x y p q = absurd q
consumes_both (Some a) (Some b) (Some c) x y p q = p ∙ ap (λ (z : List ℕ). x ++ z) q ∙ sym (append_assoc x y c)

-- nothing read yet
pub consumes_none : (a : Option (List ℕ)) (x : List ℕ) → Consumes a a (take 0 x)
consumes_none None x = tt
consumes_none (Some a) x = refl

-- what a step takes is what the reader had first
pub step_consumes : {E : Type 0} (r : Result ℕ E) (old new : Option (List ℕ)) (part : List ℕ) (n m : ℕ) → step_of r n ≡ Ok (Some m) → n ≡ length part
    → ReadsAtMost r part → ReadConsumes old new r part → (m ≤ length part) × Consumes old new (take m part)
unfolding step_of
step_consumes (Ok zero) old new part n m e l a p = let z : ◌≡◌ {A = ℕ} 0 1 = cc in absurd (omega arith)
step_consumes (Ok (suc k)) old new part n m e l a p =
    let q : min (suc k) n ≡ m = cc in
    let s : suc k ≡ m = omega (arith, a.0) in
    (omega (arith, a.0), rw s at p.0)
step_consumes (Err x) old new part n m e l a p = let z : ◌≡◌ {A = ℕ} 0 1 = cc in absurd (omega arith)

-- where a read says that the input ended, nothing is left
pub step_ended : {E : Type 0} (r : Result ℕ E) (old new : Option (List ℕ)) (part : List ℕ) (n : ℕ) → step_of r n ≡ Ok None → 0 < length part
    → ReadConsumes old new r part → Consumes old new (take 0 part) × IsAtEnd new
unfolding step_of
step_ended (Ok zero) old new part n e l p = (p.0, p.1 refl l)
step_ended (Ok (suc k)) old new part n e l p = let z : ◌≡◌ {A = ℕ} 0 1 = cc in absurd (omega arith)
step_ended (Err x) old new part n e l p = let z : ◌≡◌ {A = ℕ} 0 1 = cc in absurd (omega arith)

-- the start of a buffer whose part from `done` on was written
pub take_part : (buf part post : List ℕ) (done m : ℕ) → done ≤ length buf → m ≤ length part
    → take (done + m) (take done buf ++ (part ++ post)) ≡ take done buf ++ take m part
take_part buf part post done m l h =
    let d : length (take done buf) ≡ done = length-take-le done buf l in
    ap (λ (k : ℕ). take (k + m) (take done buf ++ (part ++ post))) (sym d)
    ∙ take-append-add (take done buf) (part ++ post) m
    ∙ ap (λ (x : List ℕ). take done buf ++ x) (take-append-le m part post h)

pub take_before : (buf part post : List ℕ) (done : ℕ) → done ≤ length buf → take done (take done buf ++ (part ++ post)) ≡ take done buf ++ take 0 part
take_before buf part post done l =
    let e : done ≡ done + 0 = omega arith in
    ap (λ (k : ℕ). take k (take done buf ++ (part ++ post))) e ∙ take_part buf part post done 0 l (omega arith)
