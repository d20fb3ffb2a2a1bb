-- A journal with one change more.
use Rattle.std.proofs.Common.{◌≡◌, refl, sym, ap, ◌∙◌, List, [], ◌∷◌, ◌++◌}
use Rattle.std.proofs.lemmas.List.{flat_map_more}
use Rattle.disk_image.specs.Journal.{Change, Contents, LeadsFrom, Makes, changed_by, code, replayed}
use Rattle.disk_image.specs.declared.image.Image.{Image}

replayed_more : (changes : List Change) (change : Change) (c : Contents) → replayed (changes ++ change ∷ []) c ≡ changed_by change (replayed changes c)
replayed_more [] change c = refl
replayed_more (first ∷ changes) change c = replayed_more changes change (changed_by first c)

pub leads_on : (before : Contents) (change : Change) (old new : Image) → LeadsFrom before old → Makes change old new → LeadsFrom before new
leads_on before change old new leads makes = record {
  changes = leads.changes ++ change ∷ [];
  noted = makes.noted ∙ ap (λ bytes. bytes ++ code change) leads.noted ∙ flat_map_more code [] leads.changes change;
  made = replayed_more leads.changes change before ∙ ap (changed_by change) leads.made ∙ sym makes.made;
}
