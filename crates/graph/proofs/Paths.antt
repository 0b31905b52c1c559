-- Paths: a chain contains one that passes no lot twice, and a path can be cut at any of its lots.
use Rattle.std.proofs.lemmas.Bool.Decides.{nat_tests}
use Rattle.std.proofs.Common.{◌≡◌, ℕ, ◌+◌, ◌<◌, Bool, true, ◌≢◌, List, [], ◌∷◌, length, sym, refl, subst, ⊎_elim, arith}
use Rattle.std.proofs.lemmas.Bool.{false≢true, cases_Bool, cases_eq}
use Rattle.graph.specs.ChainLaws.{ChainsHavePaths}
use Rattle.graph.specs.Chains.{Chain, stop, step, Path}
use Rattle.graph.specs.Lots.{has, Simple, Inside}
use Rattle.graph.proofs.Members.{has_first, has_next, has_cases}

-- a path that reaches y has y, unless it is empty
pub ends : (e : ℕ → ℕ → Bool) (y x p : ℕ) (ps : List ℕ) → Path e y x (p ∷ ps) → has y (p ∷ ps) ≡ true
ends e y x p [] r = grind (arith, nat_tests)
ends e y x p (q ∷ ps) r = grind (arith, nat_tests, ends e y p q ps r.1)

-- the step before the end
pub last_step : (e : ℕ → ℕ → Bool) (y x p : ℕ) (ps : List ℕ) → Path e y x (p ∷ ps) → p ≢ y → (z : ℕ) × (has z (p ∷ ps) ≡ true) × (z ≢ y) × (e z y ≡ true)
last_step e y x p [] r ne = absurd (ne r.1)
last_step e y x p (q ∷ ps) r ne = ⊎_elim
    (λ qy. (p, has_first p (q ∷ ps), ne, subst (λ w. e p w ≡ true) qy r.1.0))
    (λ qy. let (z, h, zy, l) = last_step e y p q ps r.1 qy in (z, has_next p z (q ∷ ps) h, zy, l))
    (cases_eq q y)

-- a path over other pairs, from what holds of each of its steps
pub over : (e f : ℕ → ℕ → Bool) → ((a b : ℕ) → e a b ≡ true → f a b ≡ true) → (y x : ℕ) (ps : List ℕ) → Path e y x ps → Path f y x ps
over e f h y x [] r = r
over e f h y x (p ∷ ps) r = (h x p r.0, over e f h y p ps r.1)

-- a path from x to y, cut at z
pub record Cut (e : ℕ → ℕ → Bool) (y x z : ℕ) (ps : List ℕ) : Type 0 where
  pub front : List ℕ
  pub rest : List ℕ
  pub to : Path e z x front
  pub from : Path e y z rest
  pub front_simple : Simple front
  pub rest_simple : Simple (z ∷ rest)
  pub front_inside : Inside front ps
  pub rest_inside : Inside rest ps
  pub apart : (w : ℕ) → has w front ≡ true → has w rest ≡ true → ⊥
  pub lengths : length front + length rest ≡ length ps
  pub some : 0 < length front

pub cut : (e : ℕ → ℕ → Bool) (y x z : ℕ) (ps : List ℕ) → Path e y x ps → Simple ps → has z ps ≡ true → Cut e y x z ps
cut e y x z [] r s h = absurd (false≢true h)
cut e y x z (p ∷ ps) r s h = ⊎_elim
    (λ zp. record {
      front = p ∷ [];
      rest = ps;
      to = (r.0, sym zp);
      from = subst (λ w. Path e y w ps) (sym zp) r.1;
      front_simple = (refl, tt);
      rest_simple = subst (λ w. Simple (w ∷ ps)) (sym zp) s;
      front_inside = λ w k. grind (arith, nat_tests);
      rest_inside = λ w k. has_next p w ps k;
      apart = λ w k l. grind (arith, nat_tests);
      lengths = omega arith;
      some = omega arith;
    })
    (λ k. let c = cut e y p z ps r.1 s.1 k in record {
      front = p ∷ c.front;
      rest = c.rest;
      to = (r.0, c.to);
      from = c.from;
      front_simple = (grind (arith, nat_tests, c.front_inside p), c.front_simple);
      rest_simple = c.rest_simple;
      front_inside = λ w q. grind (arith, nat_tests, c.front_inside w);
      rest_inside = λ w q. has_next p w ps (c.rest_inside w q);
      apart = λ w q l. grind (arith, nat_tests, c.rest_inside p, c.apart w);
      lengths = let l = c.lengths in omega arith;
      some = omega arith;
    })
    (has_cases p z ps h)

pub simple_path : (e : ℕ → ℕ → Bool) (y x : ℕ) → Chain e y x → (ps : List ℕ) × Path e y x ps × Simple (x ∷ ps)
simple_path e y x stop = ([], refl, (refl, tt))
simple_path e y x (step {p = p} f c) =
    let (ps, r, s) = simple_path e y p c in
    ⊎_elim
    (λ h. let k = cut e y x x (p ∷ ps) (f, r) s h in (k.rest, k.from, k.rest_simple))
    (λ h. (p ∷ ps, (f, r), (h, s)))
    (cases_Bool (has x (p ∷ ps)))

pub path_chain : (e : ℕ → ℕ → Bool) (y x : ℕ) (ps : List ℕ) → Path e y x ps → Chain e y x
path_chain e y x [] r = subst (λ z. Chain e z x) r stop
path_chain e y x (p ∷ ps) r = step r.0 (path_chain e y p ps r.1)

pub chains_have_paths : ChainsHavePaths
chains_have_paths = record { simple = simple_path; chain = path_chain }
