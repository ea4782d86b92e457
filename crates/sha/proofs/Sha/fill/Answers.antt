-- The bytes stand behind those that the block held, which is hashed when it is full.
use Rattle.std.proofs.Common.{◌+◌, ◌-◌, ◌%◌, length, refl, arith, rules}
use Rattle.sha.proofs.Laws.{keep_stands, complete_stands, put_behind, put_long}
use Rattle.sha.proofs.Sha.fill.Goals as goal

pub returns-then-end-eq64-clause-fed : goal.returns-then-end-eq64-clause-fed
returns-then-end-eq64-clause-fed c =
    let s = c.args.self.now in
    let written = put_behind (s.count % 64) _ s.block _ _ (search rules) c.copy_from_slice.ensures.after in
    let long = put_long (s.count % 64) (s.count % 64 + length c.args.d.now - s.count % 64) s.block c.copy_from_slice.new.self (omega arith) (omega (arith, c.copy_from_slice.ensures.len)) in
    record { stands = λ m w. complete_stands s m _ _ _ _ c.if-end-eq64.true (omega (arith, long)) written c.compress_block-self.ensures refl w }

pub returns-else-end-eq64-clause-fed : goal.returns-else-end-eq64-clause-fed
returns-else-end-eq64-clause-fed c =
    let s = c.args.self.now in
    let written = put_behind (s.count % 64) _ s.block _ _ (search rules) c.copy_from_slice.ensures.after in
    record { stands = λ m w. keep_stands s m _ _ _ (omega (arith, c.if-end-eq64.false)) written refl w }
