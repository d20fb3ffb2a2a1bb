-- The keys of the map's entries are values such as the program has.
use Rattle.std.proofs.Common.{◌≡◌, sym, ap, ◌∙◌, subst, Bool, true, false, cond, List, [], ◌∷◌, Some}
use Rattle.std.specs.Prelude.{All}
use Rattle.std.specs.BTreeMap.{insert_entry}
use Rattle.std.specs.Map.{lookup, set_value}
use Rattle.std.specs.Ordering.{match_ordering}
use Rattle.std.specs.declared.cmp.Ordering.{Ordering}
use Rattle.std.specs.declared.cmp.Ordering.TheVariants.{Less, Equal, Greater}
use Rattle.sort_keys.specs.Keys.{IsHeld}
use Rattle.query_groups.specs.Keeping.{HasPrefix, HaveHeldKeys, key_order}
use Rattle.query_groups.specs.declared.kept.Group.{Group}
use Rattle.query_groups.specs.declared.kept.GroupKey.{GroupKey}
use Rattle.query_groups.proofs.MapEntries.{some_value}

-- with a group of its own
pub held_new : (es : List (GroupKey × Group)) (k : GroupKey) (v : Group) → HasPrefix k → All IsHeld v.keys → HaveHeldKeys es → HaveHeldKeys (insert_entry key_order es k v)
held_new [] k v whole p h = ((whole, p), tt)
held_new (e ∷ es) k v whole p h = by (key_order k e.0) (held_new es k v whole p h.1)
  where
    by : (o : Ordering) → HaveHeldKeys (insert_entry key_order es k v) → HaveHeldKeys (match_ordering o ((k, v) ∷ e ∷ es) ((e.0, v) ∷ es) (e ∷ insert_entry key_order es k v))
    by Less rest = ((whole, p), h)
    by Equal rest = ((h.0.0, p), h.1)
    by Greater rest = (h.0, rest)

-- with more kept of a group
pub held_set : (test : GroupKey → Bool) (es : List (GroupKey × Group)) (v w : Group) → lookup test es ≡ Some v → w.keys ≡ v.keys → HaveHeldKeys es → HaveHeldKeys (set_value test es w)
held_set test [] v w found same h = tt
held_set test (e ∷ es) v w found same h = by (test e.0) found (λ f. held_set test es v w f same h.1)
  where
    by : (b : Bool) → cond b (Some e.1) (lookup test es) ≡ Some v → (lookup test es ≡ Some v → HaveHeldKeys (set_value test es w)) → HaveHeldKeys (cond b ((e.0, w) ∷ es) (e ∷ set_value test es w))
    by true f rest = let is_v : e.1 ≡ v = ap (some_value v) f in ((h.0.0, subst (All IsHeld) (ap (λ (g : Group). g.keys) is_v ∙ sym same) h.0.1), h.1)
    by false f rest = (h.0, rest f)
