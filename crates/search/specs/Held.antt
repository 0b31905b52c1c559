-- The states that the program's counter and walker hold. Rests on States.
use Rattle.search.specs.States.{State}
use Rattle.search.specs.declared.counter.Counter.{Counter}
use Rattle.search.specs.declared.walker.Walker.{Walker}

abbrev pub counter_state : Counter → State
counter_state c = c.held

abbrev pub walker_state : Walker → State
walker_state w = w.held
