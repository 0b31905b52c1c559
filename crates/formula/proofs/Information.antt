-- In the scale of three, more decided leaves decide no node otherwise, and a decided node is right in every choice.
use Rattle.std.proofs.Common.{◌≡◌, Bool, true, false, not as flip, ◌&&◌, ◌||◌, sym, refl, ap, ◌∙◌, subst, ap₂, inl, inr, ⊎_elim}
use Rattle.std.proofs.lemmas.Bool.{and_right, or_right}
use Rattle.formula.specs.declared.scale.Three.{Three}
use Rattle.formula.specs.declared.scale.Three.TheVariants.{Yes, No, Open}
use Rattle.formula.specs.Decided.{known, Less, Chosen}
use Rattle.formula.specs.Scales.{two, three, three_and, three_or, three_not}
use Rattle.formula.specs.Tree.{Tree, leaf, not, and, or, then}
use Rattle.formula.specs.Truth.{truth}
use Rattle.formula.specs.TruthLaws.{Informed}

less_trans : (x y z : Three) → Less x y → Less y z → Less x z
less_trans x y z h g = ⊎_elim (λ e. inl e) (λ e. subst (λ w. Less w z) (sym e) g) h

less_not : (x y : Three) → Less x y → Less (three_not x) (three_not y)
less_not x y h = ⊎_elim (λ e. inl (ap three_not e)) (λ e. inr (ap three_not e)) h

-- what an open part says of an and or an or, any other part says too
open_and : (x y : Three) → Less (three_and Open y) (three_and x y)
open_and Yes Yes = inl refl
open_and Yes No = inr refl
open_and Yes Open = inl refl
open_and No Yes = inl refl
open_and No No = inr refl
open_and No Open = inl refl
open_and Open y = inr refl

open_or : (x y : Three) → Less (three_or Open y) (three_or x y)
open_or Yes Yes = inr refl
open_or Yes No = inl refl
open_or Yes Open = inl refl
open_or No Yes = inr refl
open_or No No = inl refl
open_or No Open = inl refl
open_or Open y = inr refl

and_right_open : (x y : Three) → Less (three_and x Open) (three_and x y)
and_right_open Yes y = inl refl
and_right_open No y = inr refl
and_right_open Open y = inl refl

or_right_open : (x y : Three) → Less (three_or x Open) (three_or x y)
or_right_open Yes y = inr refl
or_right_open No y = inl refl
or_right_open Open y = inl refl

-- an operation that says no less where a part says more
module _ (f : Three → Three → Three) (left : (x y : Three) → Less (f Open y) (f x y)) (right : (x y : Three) → Less (f x Open) (f x y)) where
  less_both : (x y x' y' : Three) → Less x x' → Less y y' → Less (f x y) (f x' y')
  less_both x y x' y' h g =
      less_trans (f x y) (f x' y) (f x' y')
      (⊎_elim (λ e. subst (λ w. Less (f w y) (f x' y)) (sym e) (left x' y)) (λ e. inr (ap (λ w. f w y) e)) h)
      (⊎_elim (λ e. subst (λ w. Less (f x' w) (f x' y')) (sym e) (right x' y')) (λ e. inr (ap (f x') e)) g)

less_and : (x y x' y' : Three) → Less x x' → Less y y' → Less (three_and x y) (three_and x' y')
less_and = less_both three_and open_and and_right_open

less_or : (x y x' y' : Three) → Less x x' → Less y y' → Less (three_or x y) (three_or x' y')
less_or = less_both three_or open_or or_right_open

module _ {A : Type 0} (v w : A → Three) (h : (a : A) → Less (v a) (w a)) where
  kept : (t : Tree A) → Less (truth three v t) (truth three w t)
  kept (leaf a) = h a
  kept (not p t) = less_not _ _ (kept t)
  kept (and p t u) = less_and _ _ _ _ (kept t) (kept u)
  kept (or p t u) = less_or _ _ _ _ (kept t) (kept u)
  kept (then p t u) = less_or _ _ _ _ (less_not _ _ (kept t)) (kept u)

-- a choice for open says nothing
chosen_open : (b : Bool) → Chosen Open b
chosen_open b = (λ e. cc, λ e. cc)

chosen_yes : (b : Bool) → b ≡ true → Chosen Yes b
chosen_yes b h = (λ e. h, λ e. cc)

chosen_no : (b : Bool) → b ≡ false → Chosen No b
chosen_no b h = (λ e. cc, λ e. h)

chosen_not : (x : Three) (b : Bool) → Chosen x b → Chosen (three_not x) (flip b)
chosen_not Yes b h = chosen_no (flip b) (ap flip (h.0 refl))
chosen_not No b h = chosen_yes (flip b) (ap flip (h.1 refl))
chosen_not Open b h = chosen_open (flip b)

chosen_and : (x y : Three) (a b : Bool) → Chosen x a → Chosen y b → Chosen (three_and x y) (a && b)
chosen_and Yes y a b h g = subst (λ c. Chosen y (c && b)) (sym (h.0 refl)) g
chosen_and No y a b h g = chosen_no (a && b) (ap (λ c. c && b) (h.1 refl))
chosen_and Open Yes a b h g = chosen_open (a && b)
chosen_and Open No a b h g = chosen_no (a && b) (and_right a b (g.1 refl))
chosen_and Open Open a b h g = chosen_open (a && b)

chosen_or : (x y : Three) (a b : Bool) → Chosen x a → Chosen y b → Chosen (three_or x y) (a || b)
chosen_or Yes y a b h g = chosen_yes (a || b) (ap (λ c. c || b) (h.0 refl))
chosen_or No y a b h g = subst (λ c. Chosen y (c || b)) (sym (h.1 refl)) g
chosen_or Open Yes a b h g = chosen_yes (a || b) (or_right a b (g.0 refl))
chosen_or Open No a b h g = chosen_open (a || b)
chosen_or Open Open a b h g = chosen_open (a || b)

module _ {A : Type 0} (v : A → Three) (w : A → Bool) (h : (a : A) → Chosen (v a) (w a)) where
  right : (t : Tree A) → Chosen (truth three v t) (truth two w t)
  right (leaf a) = h a
  right (not p t) = chosen_not _ _ (right t)
  right (and p t u) = chosen_and _ _ _ _ (right t) (right u)
  right (or p t u) = chosen_or _ _ _ _ (right t) (right u)
  right (then p t u) = chosen_or _ _ _ _ (chosen_not _ _ (right t)) (right u)

-- decided truths under the words
known_not : (b : Bool) → three_not (known b) ≡ known (flip b)
known_not true = refl
known_not false = refl

known_and : (a b : Bool) → three_and (known a) (known b) ≡ known (a && b)
known_and true b = refl
known_and false b = refl

known_or : (a b : Bool) → three_or (known a) (known b) ≡ known (a || b)
known_or true b = refl
known_or false b = refl

agree : {A : Type 0} (v : A → Bool) (t : Tree A) → truth three (λ a. known (v a)) t ≡ known (truth two v t)
agree v (leaf a) = refl
agree v (not p t) = ap three_not (agree v t) ∙ known_not (truth two v t)
agree v (and p t u) = ap₂ three_and (agree v t) (agree v u) ∙ known_and (truth two v t) (truth two v u)
agree v (or p t u) = ap₂ three_or (agree v t) (agree v u) ∙ known_or (truth two v t) (truth two v u)
agree v (then p t u) =
    ap₂ three_or (ap three_not (agree v t) ∙ known_not (truth two v t)) (agree v u) ∙ known_or (flip (truth two v t)) (truth two v u)

pub informed : (A : Type 0) → Informed A
informed A = record { kept = λ t v w h. kept v w h t; right = λ t v w h. right v w h t; agree = λ t v. agree v t }
