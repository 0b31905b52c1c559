use Rattle.std.proofs.Common.{rules, ◌≡◌, ◌+◌, ◌-◌, ◌<◌, true, false, ◌++◌, length, take, drop, set, replicate, Some, None, sym, ap, ◌∙◌, arith, length-set}
use Rattle.search.specs.States.{last_false, counted}
use Rattle.search.proofs.Fills.{counted_at, made_of}
use Rattle.search.proofs.held.count_up.Goals as goal
use Rattle.search.proofs.held.count_up.Goals.{in-Some, in_default}

pub returns-clause-counted : goal.returns-clause-counted
returns-clause-counted c =
    let bs = c.args.values.now in
    let last = c.last_false-last.ensures in
    elim c.match-last.branch [
      | in-Some w ↦ (
          let i = w.in-Some.index in
          let l : i < length bs = search rules in
          let turned = set bs i true in
          let behind : w.fill.new.self ≡ replicate (length (take (length turned - (i + 1)) (drop (i + 1) turned))) false = w.fill.ensures.after (λ y e. search rules) in
          let after : c.match-last.values ≡ take (i + 1) turned ++ replicate (length bs - (i + 1)) false = w.values-is ∙ made_of turned (i + 1) (length bs - (i + 1)) w.fill.new.self (omega (arith, l, length-set bs i true)) behind in
          let is : Some i ≡ last_false bs = search rules in
          after ∙ sym (counted_at bs i l) ∙ ap (counted bs) is)
      | in_default w ↦ (let is : None ≡ last_false bs = search rules in w.values-is ∙ ap (counted bs) is)
    ]
