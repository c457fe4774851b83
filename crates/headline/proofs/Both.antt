-- The page's words for maps are the program's.
use Rattle.headline.specs.Headline.{IsWithin}
use Rattle.headline.specs.Laws.{OneIsRepaired, Same}
use Rattle.headline.specs.View.{instance}
use Rattle.headline.proofs.Best.{best_back, one_best, right_of}
use Rattle.headline.proofs.Trees.{forest}

pub same : Same
same m market lines names good =
    let right = right_of m (forest m market) lines names good in
    (right.feasible, right.stable, λ best. best_back m (forest m market) lines best)

pub one : OneIsRepaired
one m market old was x y of_x of_y good also best other = one_best m market (IsWithin old (instance m) was) x y of_x of_y good also best.best other.best
