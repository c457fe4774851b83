-- A map that is gone through group by group.
use Rattle.std.proofs.Common.{◌≡◌, ℕ, suc, ◌+◌, ◌≤◌, ◌==◌, List, length, map, take, drop, sym, ap, subst, ◌∙◌, arith}
use Rattle.std.specs.List.{prefix_len}
use Rattle.map_model.specs.declared.lines.By.{By}
use Rattle.map_model.specs.declared.lines.MapLine.{MapLine}
use Rattle.map_model.specs.declared.lines.NameLine.{NameLine}
use Rattle.map_model.specs.Market.{Market, IsMarket}
use Rattle.map_model.specs.Allocation.{IsMapForm}
use Rattle.published_map.specs.Rows.{amounts_in, names_in}
use Rattle.published_map.proofs.Cut.{from, of, all_left, first_part, behind_part, own_lines, own_names}
use Rattle.published_map.proofs.Ranks.{few, lines_rise, names_rise, rising}

abbrev pub line_group : MapLine → ℕ
line_group l = l.group.0

abbrev pub name_group : NameLine → ℕ
name_group l = l.group.0

-- what is left of a map is that of group g and of later ones
pub record IsLeft (lines : List MapLine) (names : List NameLine) (g : ℕ) (left_lines : List MapLine) (left_names : List NameLine) : Type 0 where
  pub of_lines : left_lines ≡ from line_group g lines
  pub of_names : left_names ≡ from name_group g names

-- what a map has of group g
pub record IsOwn (lines : List MapLine) (names : List NameLine) (g : ℕ) (own_lines : List MapLine) (own_names : List NameLine) : Type 0 where
  pub of_lines : own_lines ≡ of line_group g lines
  pub of_names : own_names ≡ of name_group g names
  pub few_lines : length own_lines ≤ 16
  pub few_names : length own_names ≤ 16

pub starts : (lines : List MapLine) (names : List NameLine) → IsLeft lines names 0 lines names
starts lines names = record { of_lines = sym (all_left line_group lines); of_names = sym (all_left name_group names) }

pub own_is : (m : Market) (lines : List MapLine) (names : List NameLine) (g : ℕ) (left_lines : List MapLine) (left_names : List NameLine) → IsMarket m → IsMapForm m lines names → IsLeft lines names g left_lines left_names
    → (mine : List MapLine) (mine_names : List NameLine) → mine ≡ take (prefix_len (λ (l : MapLine). l.group.0 == g) left_lines) left_lines → mine_names ≡ take (prefix_len (λ (l : NameLine). l.group.0 == g) left_names) left_names → IsOwn lines names g mine mine_names
own_is m lines names g left_lines left_names market form left mine mine_names is also =
    let lines_up = lines_rise m market lines form.of_lines in
    let names_up = names_rise m market names form.of_names in
    let a = is ∙ first_part line_group g lines left_lines (rising line_group (λ (l : MapLine). l.place) (length m.groups) 0 lines lines_up) left.of_lines in
    let b = also ∙ first_part name_group g names left_names (rising name_group (λ (l : NameLine). l.place) (length m.groups) 0 names names_up) left.of_names in
    record {
      of_lines = a;
      of_names = b;
      few_lines = omega (arith, ap length a, few line_group (λ (l : MapLine). l.place) (length m.groups) g 0 lines lines_up);
      few_names = omega (arith, ap length b, few name_group (λ (l : NameLine). l.place) (length m.groups) g 0 names names_up);
    }

pub goes_on : (m : Market) (lines : List MapLine) (names : List NameLine) (g : ℕ) (left_lines : List MapLine) (left_names : List NameLine) → IsMarket m → IsMapForm m lines names → IsLeft lines names g left_lines left_names
    → (rest : List MapLine) (rest_names : List NameLine) → rest ≡ drop (prefix_len (λ (l : MapLine). l.group.0 == g) left_lines) left_lines → rest_names ≡ drop (prefix_len (λ (l : NameLine). l.group.0 == g) left_names) left_names → IsLeft lines names (g + 1) rest rest_names
goes_on m lines names g left_lines left_names market form left rest rest_names is also =
    let up : suc g ≡ g + 1 = omega arith in
    let a = is ∙ behind_part line_group g lines left_lines (rising line_group (λ (l : MapLine). l.place) (length m.groups) 0 lines (lines_rise m market lines form.of_lines)) left.of_lines in
    let b = also ∙ behind_part name_group g names left_names (rising name_group (λ (l : NameLine). l.place) (length m.groups) 0 names (names_rise m market names form.of_names)) left.of_names in
    record {
      of_lines = subst (λ (n : ℕ). rest ≡ from line_group n lines) up a;
      of_names = subst (λ (n : ℕ). rest_names ≡ from name_group n names) up b;
    }

-- the amounts and names of a group, and back
pub amounts_are : (lines : List MapLine) (g : ℕ) (own : List MapLine) → own ≡ of line_group g lines → map (λ (l : MapLine). (l.place, l.amount)) own ≡ amounts_in lines g
unfolding of amounts_in
amounts_are lines g mine is = ap (map (λ (l : MapLine). (l.place, l.amount))) is

pub names_are : (names : List NameLine) (g : ℕ) (own : List NameLine) → own ≡ of name_group g names → map (λ (l : NameLine). (l.place, l.by)) own ≡ names_in names g
unfolding of names_in
names_are names g mine is = ap (map (λ (l : NameLine). (l.place, l.by))) is

pub same_lines : (a b : List MapLine) (g : ℕ) (x y : List MapLine) → x ≡ of line_group g a → y ≡ of line_group g b → amounts_in a g ≡ amounts_in b g → x ≡ y
unfolding of amounts_in
same_lines a b g x y is also same = is ∙ (sym (own_lines a g) ∙ (ap (map (λ (p : ℕ × ℕ). record { group = record { 0 = g }; place = p.0; amount = p.1 })) same ∙ own_lines b g)) ∙ sym also

pub same_names : (a b : List NameLine) (g : ℕ) (x y : List NameLine) → x ≡ of name_group g a → y ≡ of name_group g b → names_in a g ≡ names_in b g → x ≡ y
unfolding of names_in
same_names a b g x y is also same = is ∙ (sym (own_names a g) ∙ (ap (map (λ (p : ℕ × By). record { group = record { 0 = g }; place = p.0; by = p.1 })) same ∙ own_names b g)) ∙ sym also
