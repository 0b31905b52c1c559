-- The nodes that a walk has not left behind, as values are turned and added. Rests on specs/States and specs/Meanings.
use Rattle.std.proofs.Common.{◌≡◌, ℕ, zero, suc, ◌+◌, ◌^◌, ◌<◌, ◌≤◌, Bool, true, false, List, [], ◌∷◌, ◌++◌, length, Some, None, Option, ap, arith, pow-suc, pow_pos}
use Rattle.std.specs.Bool.{beq}
use Rattle.search.specs.States.{last_at, last_of, last_false, cut}
use Rattle.search.specs.Lively.{nodes_ahead}
use Rattle.search.specs.Meanings.{nodes, ahead_nodes}

nodes_suc : (d : ℕ) → nodes (suc d) ≡ 1 + (nodes d + nodes d)
unfolding nodes
nodes_suc d =
    let e : suc d + 1 ≡ suc (d + 1) = omega arith in
    omega (arith, ap (λ n. 2 ^ n) e, pow-suc 2 (d + 1), pow_pos (d + 1))

pub nodes_push : (d : ℕ) (bs : List Bool) → length bs < d → ahead_nodes d (bs ++ false ∷ []) + 1 ≡ ahead_nodes d bs
unfolding ahead_nodes
nodes_push zero bs l = absurd (omega arith)
nodes_push (suc d) [] l = omega (arith, nodes_suc d)
nodes_push (suc d) (b ∷ bs) l = omega (arith, nodes_push d bs (omega arith))

-- turning the last false drops its subtree
abbrev pub Fewer : ℕ → List Bool → Option ℕ → Type 0
Fewer d bs (Some i) = (length (cut bs i) ≤ length bs) × (ahead_nodes d (cut bs i) < ahead_nodes d bs)
Fewer d bs None = Unit {0}

fewer_step : (d : ℕ) (b : Bool) (bs : List Bool) (o : Option ℕ) → Fewer d bs o → Fewer (suc d) (b ∷ bs) (last_at (beq b false) o)
unfolding ahead_nodes
fewer_step d b bs (Some i) (l, f) = (omega arith, omega (arith, f))
fewer_step d true bs None f = tt
fewer_step d false bs None f = (omega arith, omega (arith, nodes_ahead d bs))

pub fewer : (d : ℕ) (bs : List Bool) → length bs ≤ d → Fewer d bs (last_false bs)
unfolding last_of
fewer d [] l = tt
fewer zero (b ∷ bs) l = absurd (omega arith)
fewer (suc d) (b ∷ bs) l = fewer_step d b bs (last_false bs) (fewer d bs (omega arith))
