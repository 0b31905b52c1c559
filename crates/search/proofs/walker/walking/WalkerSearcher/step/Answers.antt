use Rattle.std.proofs.Common.{rules, ◌≡◌, inl, inr, arith}
use Rattle.search.specs.Held.{walker_state}
use Rattle.search.specs.Meanings.{walker_reserve}
use Rattle.search.specs.Walking.{walker_move}
use Rattle.search.specs.declared.status.Status.TheVariants.{Working}
use Rattle.search.proofs.Steps.{moving, resting, ended}
use Rattle.search.proofs.Walks.{walker_steady}
use Rattle.search.proofs.walker.walking.WalkerSearcher.step.Goals as goal
use Rattle.search.proofs.walker.walking.WalkerSearcher.step.Goals.{in-Working-Conflict, in-Working-Full, in-Working-Extendable}

pub returns-then-age : goal.returns-then-age
returns-then-age c = resting walker_state walker_reserve walker_move c.args.codes.now c.args.self.now (inr (omega arith))

pub returns-in-Found-default : goal.returns-in-Found-default
returns-in-Found-default c = resting walker_state walker_reserve walker_move c.args.codes.now c.args.self.now (inl (ended (search rules)))

pub returns : goal.returns
unfolding walker_move
returns c =
    let s = c.args.self.now in
    let working : (walker_state s).status ≡ Working = elim c.match-prefix.branch [ in-Working-Conflict w ↦ search rules | in-Working-Full w ↦ search rules | in-Working-Extendable w ↦ search rules ] in
    moving walker_state walker_reserve walker_move _ s _ working (omega arith) (walker_steady (walker_state s) c.args.codes.now c.prefix.ensures.within working)
    (elim c.match-prefix.branch [ in-Working-Conflict w ↦ search rules | in-Working-Full w ↦ search rules | in-Working-Extendable w ↦ search rules ])
