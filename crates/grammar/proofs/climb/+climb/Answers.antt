use Rattle.std.proofs.Common.{◌≡◌, [], ◌∷◌, ◌++◌, length, sym, ap, ◌∙◌, subst, arith}
use Rattle.grammar.specs.declared.token.Token.TheVariants.{Open, Name}
use Rattle.grammar.specs.Words.{words}
use Rattle.grammar.specs.Drafts.{nodes_in}
use Rattle.grammar.specs.Climbing.{right_level, Hopeless, Climbed}
use Rattle.grammar.proofs.Climbs.{word_before, word_weight, room, from_pair, from_not, from_open, from_word, moved}
use Rattle.grammar.proofs.Hopes.{EndsNowhere, hopeless_after, hopeless_word, hopeless_open, hopeless_name, hopeless_other}
use Rattle.grammar.proofs.climb.+climb.Goals as goal
use Rattle.grammar.proofs.climb.+climb.Goals.{in-Name+in_ok-place-in-Name, in-Not+in_ok-end-in-Not, in-Open+in_ok-inner-in-Open+in_ok-closed-in-Open}

pub returns-in_err-place-in-Name : goal.returns-in_err-place-in-Name
returns-in_err-place-in-Name t c =
    let h : c.args.tokens.now ≡ Name c.in-Name.a ∷ c.in_ok-first.after.now = c.in_ok-first.ensures.cases.0 ∙ ap (λ k. k ∷ c.in_ok-first.after.now) c.in-Name.is in
    rw c.from_residual-in_err-place-in-Name.ensures (subst Hopeless (sym h) (hopeless_name c.in-Name.a c.in_ok-first.after.now c.in_err-place-in-Name.ensures))

pub push-requires : goal.push-requires
push-requires t c =
    let h = c.in_ok-first.ensures.cases.0 ∙ ap (λ k. k ∷ c.in_ok-first.after.now) c.in-Not.is in
    record { room = omega (arith, ap words h, c.requires.room, room c.in_ok-end-in-Not.ensures.0) }

pub returns-in_err-closed-in-Open : goal.returns-in_err-closed-in-Open
returns-in_err-closed-in-Open t c =
    let h : c.args.tokens.now ≡ Open ∷ c.in_ok-first.after.now = c.in_ok-first.ensures.cases.0 ∙ ap (λ k. k ∷ c.in_ok-first.after.now) c.in-Open.is in
    let g = c.in_ok-inner-in-Open.ensures in
    rw c.from_residual-in_err-closed-in-Open.ensures (subst Hopeless (sym h) (hopeless_open g.0.reads g.1 c.in_err-closed-in-Open.ensures))

pub returns-in_default : goal.returns-in_default
returns-in_default t c =
    subst Hopeless (sym c.in_ok-first.ensures.cases.0) (hopeless_other _ c.in_ok-first.after.now c.in_default.not-Open c.in_default.not-Name c.in_default.not-Not)

pub loop-op-init : goal.loop-op-init
loop-op-init t c =
    elim c.match-first.branch [
      | in-Name+in_ok-place-in-Name w ↦
          let h = c.in_ok-first.ensures.cases.0 ∙ ap (λ k. k ∷ c.in_ok-first.after.now) w.in-Name.is in
          moved (w.in_ok-place-in-Name.end, w.pair.result) w.out-is w.node-is
          (from_pair _ _ _ _ h w.in_ok-place-in-Name.ensures w.pair.ensures.index w.pair.ensures.names w.pair.ensures.nodes)
      | in-Not+in_ok-end-in-Not w ↦
          let h = c.in_ok-first.ensures.cases.0 ∙ ap (λ k. k ∷ c.in_ok-first.after.now) w.in-Not.is in
          moved (w.in_ok-end-in-Not.end, w.push.result) w.out-is w.node-is (from_not _ h w.in_ok-end-in-Not.ensures w.push.ensures.index w.push.ensures.names w.push.ensures.nodes)
      | in-Open+in_ok-inner-in-Open+in_ok-closed-in-Open w ↦
          let h = c.in_ok-first.ensures.cases.0 ∙ ap (λ k. k ∷ c.in_ok-first.after.now) w.in-Open.is in
          moved {new = w.climb-in-Open.new.out} (w.in_ok-closed-in-Open.field-0, w.in_ok-inner-in-Open.part) w.out-is w.node-is (from_open h w.in_ok-inner-in-Open.ensures w.in_ok-closed-in-Open.ensures)
    ]

pub climb-requires-in-Some : goal.climb-requires-in-Some
climb-requires-in-Some t c =
    let w = word_before c.args.least c.loop-op.rest.now c.in-Some.after.now c.in-Some.op c.in-Some.ensures.0 c.in-Some.ensures.1 in
    let o = c.loop-op.invariant.0.onward in
    (omega (arith, ap length w.0), omega (arith, ap words w.0, room c.loop-op.invariant.0, c.requires.room))

pub returns-in_err-end : goal.returns-in_err-end
returns-in_err-end t c =
    let w = word_before c.args.least c.loop-op.rest.now c.in-Some.after.now c.in-Some.op c.in-Some.ensures.0 c.in-Some.ensures.1 in
    rw c.from_residual-in_err-end.ensures (hopeless_after c.loop-op.invariant.0.reads (subst EndsNowhere (sym w.0) (hopeless_word c.in-Some.op c.in-Some.after.now c.in_err-end.ensures)))

pub push-node-requires : goal.push-node-requires
push-node-requires t c =
    let w = word_before c.args.least c.loop-op.rest.now c.in-Some.after.now c.in-Some.op c.in-Some.ensures.0 c.in-Some.ensures.1 in
    record { room = omega (arith, ap words w.0, word_weight c.in-Some.op, room c.loop-op.invariant.0, room c.in_ok-end.ensures.0, c.requires.room) }

pub loop-op-preserved : goal.loop-op-preserved
loop-op-preserved t c =
    let w = word_before c.args.least c.loop-op.rest.now c.in-Some.after.now c.in-Some.op c.in-Some.ensures.0 c.in-Some.ensures.1 in
    let y : Climbed (right_level c.in-Some.op) c.in-Some.after.now c.in_ok-end.end.now c.in_ok-end.right c.loop-op.out c.climb-in-Some.new.out
    = subst (λ l. Climbed l c.in-Some.after.now c.in_ok-end.end.now c.in_ok-end.right c.loop-op.out c.climb-in-Some.new.out) c.right.ensures c.in_ok-end.ensures in
    let added = c.push-node.ensures.nodes ∙ ap (λ j. nodes_in c.climb-in-Some.new.out ++ j ∷ []) c.node.ensures in
    from_word c.in-Some.op c.loop-op.invariant w.0 w.1 y c.push-node.ensures.index c.push-node.ensures.names added
