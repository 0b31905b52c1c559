use Rattle.std.proofs.Common.{rules, ◌≡◌, ◌+◌, ◌-◌, ◌≤◌, false, ◌++◌, length, take, replicate, sym, ◌∙◌, arith, length-take}
use Rattle.search.specs.States.{filled}
use Rattle.search.proofs.Fills.{filled_taken}
use Rattle.search.proofs.held.Held.fill.Goals as goal

pub returns-clause-filled : goal.returns-clause-filled
returns-clause-filled c =
    let s = c.self.inside in
    let bs = s.values.items in
    let falses = take (s.variables - length bs) (replicate 756 false) in
    let fits : length bs + length falses ≤ 756 = omega (arith, c.self.invariant.0, c.self.invariant.1, length-take (s.variables - length bs) (replicate 756 false)) in
    let added : c.try_extend_from_slice.new.self.items ≡ bs ++ falses = search rules in
    let is : c.try_extend_from_slice.new.self.items ≡ filled s.variables bs = added ∙ sym (filled_taken s.variables 756 bs c.self.invariant.0 c.self.invariant.1) in
    search rules
