-- `record::bytes::le` meets its contract: of the eight bytes the N come first, and zeros behind them. Assumes nothing.
use Rattle.std.proofs.Common.{◌≡◌, [], ◌∷◌, ◌++◌, drop, ◌∙◌, arith, rules}
use Rattle.record.specs.Bytes.{le}
use Rattle.record.proofs.LittleEndian.{le_eight, le_padded, le_below}
use Rattle.record.proofs.bytes.le.Given as given
use Rattle.record.proofs.bytes.le.Goals as goal

told : (g : given.Over) (c : goal.After-from_le_bytes-number g) → c.from_le_bytes-number.result ≡ le c.args.s.now c.args.at g.row.N
told g c =
    let n = g.row.N in
    let b = c.copy_from_slice.new.self ++ drop n (0 ∷ 0 ∷ 0 ∷ 0 ∷ 0 ∷ 0 ∷ 0 ∷ 0 ∷ []) in
    let e : c.from_le_bytes-number.result ≡ le b 0 8 = omega (arith, le_eight b, c.from_le_bytes-number.ensures) in
    e ∙ le_padded c.args.s.now c.copy_from_slice.new.self c.args.at n c.requires.width c.requires.in_bounds (search rules)

pub returns-clause-value : goal.returns-clause-value
returns-clause-value g c = told g c

pub returns-clause-fits : goal.returns-clause-fits
returns-clause-fits g c = omega (arith, told g c, le_below c.args.s.now c.args.at g.row.N (λ i. omega (arith, c.type_inv.s i)))
