-- `modular::power` meets its contract. Assumes nothing.
use Rattle.std.proofs.Common.{rules, arith}
use Rattle.modular.proofs.Powers.{multiplies, power_is}
use Rattle.modular.proofs.power.Goals as goal

pub power_by-requires : goal.power_by-requires
power_by-requires c = (c.args.q, 1, omega arith, omega arith, multiplies c.args.q (omega arith) (λ x y h l. search rules) (λ x y z h l e. search rules))

pub returns : goal.returns
returns c =
    let a = c.args in
    let p = c.power_by.ensures a.q 1 (omega arith) (omega arith) (multiplies a.q (omega arith) (λ x y h l. search rules) (λ x y z h l e. search rules)) in
    (power_is a.w a.e p.0 p.1, p.0)
