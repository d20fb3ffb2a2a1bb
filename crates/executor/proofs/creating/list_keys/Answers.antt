use Rattle.std.proofs.Common.{rules, ◌≡◌, ◌<◌, ◌+◌, ◌^◌, ◌∙◌, refl, sym, subst, ap, ℕ, length, Some, None, Err, Ok, IsTrue, List, option_map, arith}
use Rattle.std.specs.Prelude.{slice_get}
use Rattle.catalog.specs.Database.{Name}
use Rattle.catalog.specs.Listed.{table_named, listed_in, tables_of}
use Rattle.catalog.specs.declared.tables.IndexColumn.{IndexColumn}
use Rattle.catalog.specs.declared.tables.Table.{Table}
use Rattle.query_names.specs.Schema.{automatic_name}
use Rattle.executor.specs.Holding.{IsKeyed, ListsIndex, key_index}
use Rattle.executor.proofs.Creations.{handed_on}
use Rattle.executor.proofs.KeyCreations.{found_now, got, named_itself, none_keyed, none_some, own_name_of, same_keys, same_one, step}
use Rattle.executor.proofs.creating.list_keys.Goals as goal

pub keys-init : goal.keys-init
keys-init g c = (
  refl,
  search rules,
  λ told db held table named bare empty new_names. none_keyed _ _ (listed_in c.args.catalog) db held table (named_itself (tables_of c.args.catalog) c.args.name.now table named) bare empty,
  λ are. are,
)

pub returns-in_err-listed-clause-listed : goal.returns-in_err-listed-clause-listed
returns-in_err-listed-clause-listed g c told db held table named bare empty new_names =
    let pages = g.P.Pages in
    let before = listed_in c.args.catalog in
    let k = c.keys.invariant.2 told db held table named bare empty new_names in
    let less = c.keys-test.true in
    let most = c.key_count-count.type_inv in
    let small : c.keys.place + 1 < 2 ^ 64 = omega (arith, less, most) in
    let t : Table = c.in-Some.table.now in
    let own : Name = c.in_ok-own_name.own_name in
    let found : table_named c.args.name.now (tables_of c.keys.listed) ≡ Some t = search rules in
    let here : slice_get t.keys c.keys.place ≡ Some c.in-Some-get.columns.now = subst (λ ks. slice_get ks c.keys.place ≡ Some c.in-Some-get.columns.now) c.as_slice.ensures
    (got c.as_slice.result.now c.keys.place c.in-Some-get.columns.now c.in-Some-get.ensures.lookup.3.0 c.in-Some-get.ensures.lookup.1) in
    let own_is : own ≡ automatic_name t.name (c.keys.place + 1) = search rules in
    let index_is : c.in_ok-index.index ≡ key_index c.in-Some-get.columns.now own = search rules in
    let f = c.in_err-listed.field-0.0 in
    let lists = subst (λ b. ListsIndex (pages.map c.keys.pages) (pages.map c.list_index.new.pages) (pages.limits b).page (listed_in c.keys.listed) t c.in_ok-index.index own None (Err f)) c.keys.invariant.0
    (c.in_err-listed.ensures.listed (subst (λ b. IsTrue (pages.tells b)) (sym c.keys.invariant.0) told)) in
    handed_on _ _ c.from_residual-in_err-listed.result f c.from_residual-in_err-listed.ensures.1
    (step _ _ before db held table (named_itself before.tables c.args.name.now table named) new_names (pages.map c.keys.pages) c.keys.place small (listed_in c.keys.listed) k listed_in c.args.name.now
    (own_name_of before.tables c.args.name.now table named) t found c.in-Some-get.columns.now here own own_is c.in_ok-index.index index_is (pages.map c.list_index.new.pages) (Err f) lists)

pub keys-preserved : goal.keys-preserved
keys-preserved g c = (
  c.in_ok-listed.ensures.kept ∙ c.keys.invariant.0,
  search rules,
  λ told db held table named bare empty new_names.
      let pages = g.P.Pages in
      let before = listed_in c.args.catalog in
      let k = c.keys.invariant.2 told db held table named bare empty new_names in
      let less = c.keys-test.true in
      let most = c.key_count-count.type_inv in
      let small : c.keys.place + 1 < 2 ^ 64 = omega (arith, less, most) in
      let t : Table = c.in-Some.table.now in
      let own : Name = c.in_ok-own_name.own_name in
      let found : table_named c.args.name.now (tables_of c.keys.listed) ≡ Some t = search rules in
      let here : slice_get t.keys c.keys.place ≡ Some c.in-Some-get.columns.now = subst (λ ks. slice_get ks c.keys.place ≡ Some c.in-Some-get.columns.now) c.as_slice.ensures
      (got c.as_slice.result.now c.keys.place c.in-Some-get.columns.now c.in-Some-get.ensures.lookup.3.0 c.in-Some-get.ensures.lookup.1) in
      let own_is : own ≡ automatic_name t.name (c.keys.place + 1) = search rules in
      let index_is : c.in_ok-index.index ≡ key_index c.in-Some-get.columns.now own = search rules in
      let lists = subst (λ b. ListsIndex (pages.map c.keys.pages) (pages.map c.list_index.new.pages) (pages.limits b).page (listed_in c.keys.listed) t c.in_ok-index.index own None (Ok c.in_ok-listed.listed)) c.keys.invariant.0
      (c.in_ok-listed.ensures.listed (subst (λ b. IsTrue (pages.tells b)) (sym c.keys.invariant.0) told)) in
      step _ _ before db held table (named_itself before.tables c.args.name.now table named) new_names (pages.map c.keys.pages) c.keys.place small (listed_in c.keys.listed) k listed_in c.args.name.now
      (own_name_of before.tables c.args.name.now table named) t found c.in-Some-get.columns.now here own own_is c.in_ok-index.index index_is (pages.map c.list_index.new.pages) (Ok c.in_ok-listed.listed) lists,
  λ are.
      let t : Table = c.in-Some.table.now in
      let found : table_named c.args.name.now (tables_of c.keys.listed) ≡ Some t = search rules in
      c.in_ok-listed.ensures.after (named_itself (tables_of c.keys.listed) c.args.name.now t found) (c.keys.invariant.3 are),
)

pub returns-clause-listed : goal.returns-clause-listed
returns-clause-listed g c told db held table named bare empty new_names =
    let before = listed_in c.args.catalog in
    let k = c.keys.invariant.2 told db held table named bare empty new_names in
    let most = c.key_count-count.type_inv in
    let count : c.key_count-count.result ≡ length table.keys = c.key_count-count.ensures table (ap (λ n. table_named n before.tables) c.as_str.ensures ∙ named) in
    let own = own_name_of before.tables c.args.name.now table named in
    let itself = named_itself before.tables c.args.name.now table named in
    elim c.keys-test.branch [
      | goal.else-keys-test w ↦
          (let low = w.keys-test.false in
          let high = c.keys.auto.place-end in
          let all : c.keys.place ≡ length table.keys = omega (arith, low, high, count) in
          subst (λ n. IsKeyed (g.P.Pages.map c.keys.pages) (g.P.Pages.limits (g.P.Pages.below c.args.pages.now)).page before db table n (listed_in c.keys.listed)) all k)
      | goal.then-keys-test+in_default w ↦
          (let less = w.keys-test.true in
          let small : c.keys.place + 1 < 2 ^ 64 = omega (arith, less, most) in
          let found = found_now _ _ before db held table itself new_names (g.P.Pages.map c.keys.pages) c.keys.place small (listed_in c.keys.listed) k c.args.name.now own in
          let none : table_named c.args.name.now (tables_of c.keys.listed) ≡ None = search rules in
          absurd (none_some _ _ none found))
      | goal.then-keys-test+in-Some+in_default-get w ↦
          (let less = w.keys-test.true in
          let small : c.keys.place + 1 < 2 ^ 64 = omega (arith, less, most) in
          let found = found_now _ _ before db held table itself new_names (g.P.Pages.map c.keys.pages) c.keys.place small (listed_in c.keys.listed) k c.args.name.now own in
          let keys_are = same_keys _ _ before db held table itself new_names (g.P.Pages.map c.keys.pages) c.keys.place small (listed_in c.keys.listed) k in
          let t : Table = w.in-Some.table.now in
          let there : table_named c.args.name.now (tables_of c.keys.listed) ≡ Some t = search rules in
          let long : length w.as_slice.result.now ≡ length table.keys = ap length w.as_slice.ensures ∙ (ap (λ (u : Table). length u.keys) (same_one _ t k.keyed there found) ∙ ap length keys_are) in
          let out = w.in_default-get.ensures.lookup in
          absurd (omega (arith, out, long, less, count)))
    ]
