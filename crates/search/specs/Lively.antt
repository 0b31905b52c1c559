-- A working counter or walker has a reserve left: what the impls' laws cite. Rests on Held and Meanings.
use Rattle.std.specs.Prelude.{◌≡◌, ℕ, zero, suc, ◌^◌, ◌<◌, ◌≤◌, Bool, true, false, List, [], ◌∷◌, length}
use Rattle.std.proofs.Common.{sym, ap, subst, arith, add-one, pow-suc, pow_pos, pow_mono}
use Rattle.search.specs.Held.{counter_state}
use Rattle.search.specs.Meanings.{number, counter_reserve, counter_view, nodes, ahead_nodes, walker_reserve, walker_view}
use Rattle.search.specs.States.{State}
use Rattle.search.specs.declared.counter.Counter.{Counter}
use Rattle.search.specs.declared.status.Status.{Status}
use Rattle.search.specs.declared.status.Status.TheVariants.{Working}

pub number_below : (bs : List Bool) → number bs < 2 ^ length bs
unfolding number
number_below [] = omega arith
number_below (true ∷ bs) = omega (arith, number_below bs, pow-suc 2 (length bs))
number_below (false ∷ bs) = omega (arith, number_below bs, pow-suc 2 (length bs))

nodes_some : (d : ℕ) → 0 < nodes d
unfolding nodes
nodes_some d = omega (arith, ap (λ n. 2 ^ n) (add-one d), pow-suc 2 d, pow_pos d)

pub nodes_ahead : (d : ℕ) (bs : List Bool) → 0 < ahead_nodes d bs
unfolding ahead_nodes
nodes_ahead d [] = nodes_some d
nodes_ahead zero (b ∷ bs) = nodes_ahead zero bs
nodes_ahead (suc d) (b ∷ bs) = omega (arith, nodes_ahead d bs)

pub counter_lively : (s : State) → length s.values ≤ s.variables → s.status ≡ Working → 0 < (counter_view s).reserve
counter_lively s short working =
    let P : Status → Type 0 = λ w. 0 < counter_reserve w s.variables s.values in
    subst P (sym working) (omega (arith, number_below s.values, pow_mono short))

pub held_counter_lively : (c : Counter) → c.held.status ≡ Working → 0 < (counter_view (counter_state c)).reserve
held_counter_lively c working = counter_lively (counter_state c) (omega (arith, c.whole)) working

pub walker_lively : (s : State) → s.status ≡ Working → 0 < (walker_view s).reserve
walker_lively s working =
    let P : Status → Type 0 = λ w. 0 < walker_reserve w s.variables s.values in
    subst P (sym working) (nodes_ahead s.variables s.values)
