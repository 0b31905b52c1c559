use Rattle.formula.proofs.normal.making.+append.Given as goal

abbrev pub decreases-append : goal.decreases-append
decreases-append l = l.at
