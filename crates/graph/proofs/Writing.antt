-- What writing one record of a table changes in what its flags say.
use Rattle.std.proofs.lemmas.Bool.Decides.{nat_tests}
use Rattle.std.proofs.Common.{◌≡◌, ℕ, ◌<◌, ◌≤◌, Bool, true, ◌||◌, ◌≢◌, List, length, get_or, set, ap, arith}
use Rattle.std.proofs.lemmas.List.{get_or-set_same, get_or-set_other}
use Rattle.graph.specs.declared.link.Link.{Link}
use Rattle.graph.specs.Lots.{Lot}
use Rattle.graph.specs.Pairs.{IsPair, place, count_of_pairs, same_pair, OfPairs}
use Rattle.graph.specs.Records.{no_link, place_of, flagged}
use Rattle.graph.proofs.PairTests.{either_pairs}
use Rattle.graph.proofs.Places.{places}
use Rattle.graph.proofs.Records.{place_low, place_high, flag_at, flagged_pairs, flags_by}

-- which pair stands at the place of two lots
module _ (n c d : ℕ) (lc : Lot n c) (ld : Lot n d) (ne : c ≢ d) where
  pub at_place : (a b : ℕ) → IsPair n a b → place a b ≡ place_of c d → same_pair c d a b ≡ true
  at_place a b p e = grind (arith, nat_tests, (places n).apart a b c d p, (places n).apart a b d c p, place_low c d, place_high c d)

  pub place_at : (a b : ℕ) → IsPair n a b → same_pair c d a b ≡ true → place a b ≡ place_of c d
  place_at a b (p, q, r) h = grind (arith, nat_tests)

  pub place_within : place_of c d < count_of_pairs n
  place_within = grind (arith, nat_tests, (places n).below c d, (places n).below d c)

  -- the pair of c and d alone, as a test of pairs
  pub one_pair : OfPairs n (same_pair c d)
  one_pair = grind (arith, nat_tests)

  -- a record with the flag, written at the pair of c and d, adds that pair
  module _ (flag : Link → Bool) (ls : List Link) (l : Link) (long : count_of_pairs n ≤ length ls) where
    abbrev written : List Link
    written = set ls (place_of c d) l

    pub set_flag : flag l ≡ true → (a b : ℕ) → flagged n flag written a b ≡ (flagged n flag ls a b || same_pair c d a b)
    set_flag f a b = ap (λ t. t a b) (flags_by n flag written (λ x y. flagged n flag ls x y || same_pair c d x y) both by_pair)
      where
        both : OfPairs n (λ x y. flagged n flag ls x y || same_pair c d x y)
        both = either_pairs n (flagged n flag ls) (same_pair c d) (flagged_pairs n flag ls) one_pair

        by_pair : (x y : ℕ) → IsPair n x y → flag (get_or written (place x y) no_link) ≡ (flagged n flag ls x y || same_pair c d x y)
        by_pair x y p =
            let w = place_within in
            let old = flag_at n flag ls x y p in
            let same = at_place x y p in
            let other = place_at x y p in
            grind (arith, nat_tests, get_or-set_same ls (place_of c d) l no_link, get_or-set_other ls (place_of c d) (place x y) l no_link)

-- a record written with the flag that the old one had changes nothing that the flag says
pub set_keep : (n : ℕ) (flag : Link → Bool) (ls : List Link) (i : ℕ) (l : Link) → i < length ls → flag l ≡ flag (get_or ls i no_link) → flagged n flag (set ls i l) ≡ flagged n flag ls
set_keep n flag ls i l k f = flags_by n flag (set ls i l) (flagged n flag ls) (flagged_pairs n flag ls)
    (λ a b p. grind (arith, nat_tests, flag_at n flag ls a b p, get_or-set_same ls i l no_link, get_or-set_other ls i (place a b) l no_link))
