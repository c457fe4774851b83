-- Checks one behind another.
use Rattle.std.proofs.Common.{◌≡◌, List, [], ◌∷◌, ◌++◌, Ok, Err, refl}
use Rattle.topology_text.specs.Faults.{checked}
use Rattle.topology_text.specs.declared.fault.TopologyFault.{TopologyFault}

-- a fault that is found is the first, whatever is looked for after it
pub same_here : (xs ys : List TopologyFault) (e : TopologyFault) → checked xs ≡ Err e → checked xs ≡ checked (xs ++ ys)
same_here [] ys e h = cc
same_here (f ∷ fs) ys e h = refl

-- where none is found, what is looked for next decides
pub same_on : (xs ys : List TopologyFault) (u : Unit {0}) → checked xs ≡ Ok u → checked ys ≡ checked (xs ++ ys)
same_on [] ys u h = refl
same_on (f ∷ fs) ys u h = cc
