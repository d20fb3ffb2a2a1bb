-- What is kept of groups, one after another.
use Rattle.std.proofs.Common.{◌≡◌, refl, sym, ap, ◌∙◌, List, [], ◌∷◌, ◌++◌, map}
use Rattle.std.specs.Global.{Vec}
use Rattle.sqlval.specs.declared.value.Value.{Value}
use Rattle.query_totals.specs.declared.tally.Tally.{Tally}
use Rattle.query_groups.specs.Groups.{Entry, listed}
use Rattle.query_groups.specs.Keeping.{seen_entries}
use Rattle.query_groups.specs.declared.kept.Group.{Group}
use Rattle.query_groups.specs.declared.kept.GroupKey.{GroupKey}

abbrev pub kept_as : Group → List Value × List Tally
kept_as g = (g.keys, g.tallies.items)

-- those of the map are its values
of_values : (es : List (GroupKey × Group)) → map kept_as (map (λ (e : GroupKey × Group). e.1) es) ≡ map (λ (e : Entry). e.1) (seen_entries es)
of_values [] = refl
of_values (e ∷ es) = ap (λ (ls : List (List Value × List Tally)). kept_as e.1 ∷ ls) (of_values es)

none_left : (found : List (List Value × List Tally)) → found ++ [] ≡ found
none_left [] = refl
none_left (f ∷ fs) = ap (λ (ls : List (List Value × List Tally)). f ∷ ls) (none_left fs)

-- all are listed
pub all_listed : (found : List (List Value × Vec Tally)) (left : List Group) (es : List (GroupKey × Group)) → left ≡ [] → listed found ++ map kept_as left ≡ map kept_as (map (λ (e : GroupKey × Group). e.1) es) → listed found ≡ map (λ (e : Entry). e.1) (seen_entries es)
all_listed found left es h k = sym (none_left (listed found)) ∙ (sym (ap (λ (ls : List Group). listed found ++ map kept_as ls) h) ∙ (k ∙ of_values es))
