-- Maps that are not good, so that the page's words say something: the README's example with one thing wrong.
use Rattle.std.proofs.Common.{ℕ, ◌≤◌, [], ◌∷◌, None, Some, refl, inl, arith}
use Rattle.headline.specs.Headline.{IsGood}
use Rattle.headline.specs.View.{Choice, Group, Instance, Line, Name}

abbrev choice : ℕ → ℕ → Choice
choice pool score = record { pool = pool; score = score; limit = 4294967295 }

-- R 15; A 10 and B 10 under R; g1 8 [A,B] 1,2; g2 8 [A,B] 3,4
abbrev two_level : Instance
two_level = record {
  groups = record { demand = 8; choices = choice 1 1 ∷ choice 2 2 ∷ [] } ∷ record { demand = 8; choices = choice 1 3 ∷ choice 2 4 ∷ [] } ∷ [];
  nodes = record { capacity = 15; parent = None } ∷ record { capacity = 10; parent = Some 0 } ∷ record { capacity = 10; parent = Some 0 } ∷ [];
}

abbrev line : ℕ → ℕ → ℕ → Line
line g k units = record { group = g; place = k; units = units }

abbrev name : ℕ → ℕ → ℕ → Name
name g k n = record { group = g; place = k; node = Some n }

-- nine units of the first group, which asks for eight
over_demand : IsGood two_level (line 0 0 9 ∷ line 1 0 1 ∷ line 1 1 5 ∷ []) (name 1 0 1 ∷ name 1 1 0 ∷ []) → ⊥
over_demand good = let h : 9 ≤ 8 = good.feasible.demands 0 (record { demand = 8; choices = choice 1 1 ∷ choice 2 2 ∷ [] }) refl in absurd (omega (arith, h))

-- sixteen under the root, which holds fifteen
over_capacity : IsGood two_level (line 0 0 8 ∷ line 1 0 2 ∷ line 1 1 6 ∷ []) (name 1 0 1 ∷ []) → ⊥
over_capacity good = let h : 16 ≤ 15 = good.feasible.capacities 0 (record { capacity = 15; parent = None }) refl in absurd (omega (arith, h))

-- the good map without its names
unnamed : IsGood two_level (line 0 0 8 ∷ line 1 0 2 ∷ line 1 1 5 ∷ []) [] → ⊥
unnamed good =
    let g2 : Group = record { demand = 8; choices = choice 1 3 ∷ choice 2 4 ∷ [] } in
    let h = good.named 1 0 (choice 1 3) (g2, refl, refl) (g2, refl, inl (omega arith)) in
    absurd (omega (arith, h.1.1))
