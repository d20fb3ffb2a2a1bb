-- A way leads down, page by page.
use Rattle.std.proofs.Common.{◌≡◌, refl, sym, subst, ℕ, ◌<◌, ◌≤◌, ◌+◌, ℤ, Bool, List, None, Ok, Err, IsTrue, arith}
use Rattle.std.specs.Prelude.{⊤, Result, MatchResult, IsErrAnd}
use Rattle.sqlval.specs.Faults.{IsOutside}
use Rattle.sqlval.specs.declared.fault.Fault.{Fault}
use Rattle.tree_leaf.specs.Leaf.{Entry}
use Rattle.pages.specs.Calls.{Limits, Stays}
use Rattle.pages.specs.Map.{PageMap, AreWhole}
use Rattle.tree_overflow.proofs.ReadChains.{stays_after, stays_done}
use Rattle.tree_table.specs.Tree.{IsTableTree}
use Rattle.tree_table.specs.Ways.{IsAbout, IsStepAbout, FindsStep, FindsLeaf, IsUnder}
use Rattle.tree_table.specs.declared.way.End.{End}
use Rattle.tree_table.specs.declared.way.Way.{Way}
use Rattle.tree_table.specs.declared.way.Step.{Step}
use Rattle.tree_table.specs.declared.way.Step.TheVariants.{AtLeaf, Down}
use Rattle.tree_table.proofs.WaysDown.{Leads, asked, begins}

-- a way has come to a page of a tree, over so many pages
pub record IsComeTo (pages : PageMap) (size : ℕ) (rowid : ℤ) (rows : List Entry) (done : ℕ) (way : Way) : Type 0 where
  pub depth : ℕ
  pub few : depth + done < 20
  pub under : IsUnder pages size rowid rows depth way

-- what a step answers leads on
led : (pages : PageMap) (size : ℕ) (rowid : ℤ) (rows : List Entry) (depth : ℕ) (way : Way) (result : Result Step Fault) → AreWhole size pages → IsUnder pages size rowid rows depth way
    → FindsStep pages size way rowid result → MatchResult result (Leads pages size rowid rows depth way) IsOutside
led pages size rowid rows depth way (Ok step) whole under found =
    let asks = asked pages size rowid rows depth way under in
    subst (λ (step : Step). Leads pages size rowid rows depth way step) (sym (found asks.node asks.numbers whole asks.says asks.numbered asks.rising asks.about)) asks.leads
led pages size rowid rows depth way (Err fault) whole under found =
    (let asks = asked pages size rowid rows depth way under in found asks.node asks.numbers whole asks.says asks.numbered asks.rising asks.about)

module _ {P K : Type 0} (below : P → K) (tells : K → Bool) (limits : K → Limits) (map : P → PageMap) (count : P → ℕ) (failures : P → ℕ × ℕ) where
  -- What is so after so many pages of a way.
  pub record HasCome (old new : P) (root : ℕ) (rowid : ℤ) (done : ℕ) (way : Way) : Type 0 where
    pub stays : Stays below map count failures {T = ⊤} (Ok tt) old new
    pub about : IsAbout rowid way
    pub come : IsTrue (tells (below old)) → (rows : List Entry) (used : List ℕ) → AreWhole (limits (below old)).page (map old) → IsTableTree (map old) (limits (below old)).page root rows used
        → IsComeTo (map old) (limits (below old)).page rowid rows done way

  pub at_root : (old : P) (root : ℕ) (rowid : ℤ) → HasCome old old root rowid 0 (record { page = root; left = None; right = None })
  at_root old root rowid = record {
    stays = record { kept = refl; same = refl; counted = refl; causes = record { db = omega arith; log = omega arith; why = tt } };
    about = (tt, tt);
    come = λ told rows used whole tree. record { depth = tree.depth; few = omega (arith, tree.shallow); under = begins (map old) (limits (below old)).page root rowid rows used tree };
  }

  step_since : (old mid : P) (way : Way) (rowid : ℤ) (result : Result Step Fault) → below mid ≡ below old → map mid ≡ map old
      → (IsTrue (tells (below mid)) → FindsStep (map mid) (limits (below mid)).page way rowid result) → IsTrue (tells (below old)) → FindsStep (map old) (limits (below old)).page way rowid result
  step_since old mid way rowid result kept same found told =
      subst (λ (k : K). FindsStep (map old) (limits k).page way rowid result) kept
      (subst (λ (m : PageMap). FindsStep m (limits (below mid)).page way rowid result) same (found (subst (λ (k : K). IsTrue (tells k)) (sym kept) told)))

  pub goes_down : (old mid new : P) (root : ℕ) (rowid : ℤ) (done : ℕ) (way down : Way) (step : Step) → step ≡ Down down → HasCome old mid root rowid done way
      → (IsTrue (tells (below mid)) → FindsStep (map mid) (limits (below mid)).page way rowid (Ok step)) → IsStepAbout rowid step → Stays below map count failures {T = Step} (Ok step) mid new
      → HasCome old new root rowid (done + 1) down
  goes_down old mid new root rowid done way down step is has found about stays = record {
    stays = stays_done {S = Step} below map count failures (Ok step) old new (stays_after {S = ⊤} {T = Step} below map count failures (Ok tt) (Ok step) old mid new has.stays stays);
    about = subst (λ (step : Step). IsStepAbout rowid step) is about;
    come = λ told rows used whole tree.
        (let here = has.come told rows used whole tree in
        let leads = subst (λ (step : Step). Leads (map old) (limits (below old)).page rowid rows here.depth way step) is
        (led (map old) (limits (below old)).page rowid rows here.depth way (Ok step) whole here.under (step_since old mid way rowid (Ok step) has.stays.kept has.stays.same found told)) in
        record { depth = leads.0; few = omega (arith, here.few, leads.1); under = leads.2 });
  }

  pub ends_here : (old mid : P) (root : ℕ) (rowid : ℤ) (done place : ℕ) (way : Way) (step : Step) → step ≡ AtLeaf place → HasCome old mid root rowid done way
      → (IsTrue (tells (below mid)) → FindsStep (map mid) (limits (below mid)).page way rowid (Ok step))
      → IsTrue (tells (below old)) → FindsLeaf (map old) (limits (below old)).page root rowid (Ok (record { way = way; place = place }))
  ends_here old mid root rowid done place way step is has found told rows used whole tree =
      let here = has.come told rows used whole tree in
      subst (λ (step : Step). Leads (map old) (limits (below old)).page rowid rows here.depth way step) is
      (led (map old) (limits (below old)).page rowid rows here.depth way (Ok step) whole here.under (step_since old mid way rowid (Ok step) has.stays.kept has.stays.same found told))

  pub refused_here : (old mid : P) (root : ℕ) (rowid : ℤ) (done : ℕ) (way : Way) (fault : Fault) (result : Result End Fault) → HasCome old mid root rowid done way
      → (IsTrue (tells (below mid)) → FindsStep (map mid) (limits (below mid)).page way rowid (Err fault)) → IsErrAnd result (λ e. e ≡ fault)
      → IsTrue (tells (below old)) → FindsLeaf (map old) (limits (below old)).page root rowid result
  refused_here old mid root rowid done way fault (Ok end) has found is told rows used whole tree = absurd is
  refused_here old mid root rowid done way fault (Err e) has found is told rows used whole tree =
      let here = has.come told rows used whole tree in
      subst IsOutside (sym is)
      (led (map old) (limits (below old)).page rowid rows here.depth way (Err fault) whole here.under (step_since old mid way rowid (Err fault) has.stays.kept has.stays.same found told))

  pub too_deep : (old mid : P) (root : ℕ) (rowid : ℤ) (done : ℕ) (way : Way) (result : Result End Fault) → HasCome old mid root rowid done way → 20 ≤ done
      → IsTrue (tells (below old)) → FindsLeaf (map old) (limits (below old)).page root rowid result
  too_deep old mid root rowid done way result has many told rows used whole tree = absurd (let here = has.come told rows used whole tree in omega (arith, here.few, many))
