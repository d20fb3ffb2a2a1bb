use Rattle.std.proofs.Common.{◌≡◌, ◌∙◌, ℕ, suc, [], ◌∷◌, Option, IsTrue, Ok, Err, inl, sym, subst}
use Rattle.pages.specs.Map.{PageMap, page_at, IsThere}
use Rattle.tree_page.specs.Node.{Keys}
use Rattle.tree_store.specs.Saying.{Says}
use Rattle.tree_store.specs.Sides.{children}
use Rattle.tree_store.specs.Storing.{Stores}
use Rattle.tree_table.specs.Joining.{IsPairFound, IsJoinedAt, MergesRows, MergesKeys}
use Rattle.tree_table.specs.Tree.{top}
use Rattle.tree_table.specs.declared.joining.Pair.{Pair}
use Rattle.tree_table.proofs.Descents.{since}
use Rattle.tree_table.proofs.Exits.{full_err, outside_full}
use Rattle.tree_table.proofs.Joined.{left_there, right_there, merged_or, store_two, page_there, joined_or, joined_since}
use Rattle.tree_table.proofs.joining.joined.Goals as goal

pub returns-in_err-pair-clause-joined : goal.returns-in_err-pair-clause-joined
returns-in_err-pair-clause-joined g c = λ told ways rowid depth low t high free under.
    (let gs = g.P.Pages in
    let first = c.args.pages.now in
    let old = gs.map first in
    let size = (gs.limits (gs.below first)).page in
    let number = c.args.number in
    let kids = children (top depth) t.kids in
    let last = top depth t.last in
    let says = subst (λ (n : ℕ). Says old n (Keys kids last)) under.top_is (under.lies).0 in
    outside_full (IsJoinedAt old (gs.map c.pair_of.new.pages) size number (suc depth) low t high free) c.from_residual.result c.in_err-pair.field-0.0 c.from_residual.ensures.1
    (c.in_err-pair.ensures.found told kids last (under.free_are).whole says))

pub returns-in_err-merged-clause-joined : goal.returns-in_err-merged-clause-joined
returns-in_err-merged-clause-joined g c = λ told ways rowid depth low t high free under.
    (let gs = g.P.Pages in
    let first = c.args.pages.now in
    let old = gs.map first in
    let size = (gs.limits (gs.below first)).page in
    let number = c.args.number in
    let kids = children (top depth) t.kids in
    let last = top depth t.last in
    let says = subst (λ (n : ℕ). Says old n (Keys kids last)) under.top_is (under.lies).0 in
    let stays = c.in_ok-pair.ensures.stays in
    let pair = c.in-Some.pair in
    let at = subst (λ (found : Option Pair). IsPairFound kids last c.args.place found) c.in-Some.is (c.in_ok-pair.ensures.found told kids last (under.free_are).whole says) in
    let there_left = left_there old size number ways rowid depth low t high free under c.args.place pair at in
    let there_right = right_there old size number ways rowid depth low t high free under c.args.place pair at in
    let merged_rows = since gs.below gs.tells gs.limits gs.map first c.pair_of.new.pages (λ (m : PageMap) (n : ℕ). IsThere m n pair.left → IsThere m n pair.right → MergesRows (page_at m pair.left) (page_at m pair.right) (Err c.in_err-merged.field-0.0)) stays.kept stays.same
    c.in_err-merged.ensures.rows told there_left there_right in
    let merged_keys = since gs.below gs.tells gs.limits gs.map first c.pair_of.new.pages (λ (m : PageMap) (n : ℕ). IsThere m n pair.left → IsThere m n pair.right → MergesKeys (page_at m pair.left) pair.cell.items (page_at m pair.right) (Err c.in_err-merged.field-0.0)) stays.kept stays.same
    c.in_err-merged.ensures.keys told there_left there_right in
    outside_full (IsJoinedAt old (gs.map c.merged.new.pages) size number (suc depth) low t high free) c.from_residual-in_err-merged.result c.in_err-merged.field-0.0 c.from_residual-in_err-merged.ensures.1
    (merged_or old size number ways rowid depth low t high free under c.args.place pair at (Err c.in_err-merged.field-0.0) merged_rows merged_keys))

pub returns-in_err-fan-clause-joined : goal.returns-in_err-fan-clause-joined
returns-in_err-fan-clause-joined g c = λ told ways rowid depth low t high free under.
    (let gs = g.P.Pages in
    let first = c.args.pages.now in
    let old = gs.map first in
    let size = (gs.limits (gs.below first)).page in
    let number = c.args.number in
    let kids = children (top depth) t.kids in
    let last = top depth t.last in
    let says = subst (λ (n : ℕ). Says old n (Keys kids last)) under.top_is (under.lies).0 in
    let stays = c.in_ok-pair.ensures.stays in
    let pair = c.in-Some.pair in
    let at = subst (λ (found : Option Pair). IsPairFound kids last c.args.place found) c.in-Some.is (c.in_ok-pair.ensures.found told kids last (under.free_are).whole says) in
    let there_left = left_there old size number ways rowid depth low t high free under c.args.place pair at in
    let there_right = right_there old size number ways rowid depth low t high free under c.args.place pair at in
    let merged_rows = since gs.below gs.tells gs.limits gs.map first c.pair_of.new.pages (λ (m : PageMap) (n : ℕ). IsThere m n pair.left → IsThere m n pair.right → MergesRows (page_at m pair.left) (page_at m pair.right) (Ok c.in_ok-merged.merged)) stays.kept stays.same
    c.in_ok-merged.ensures.rows told there_left there_right in
    let merged_keys = since gs.below gs.tells gs.limits gs.map first c.pair_of.new.pages (λ (m : PageMap) (n : ℕ). IsThere m n pair.left → IsThere m n pair.right → MergesKeys (page_at m pair.left) pair.cell.items (page_at m pair.right) (Ok c.in_ok-merged.merged)) stays.kept stays.same
    c.in_ok-merged.ensures.keys told there_left there_right in
    let packed = c.in_ok-merged.merged in
    let m = merged_or old size number ways rowid depth low t high free under c.args.place pair at (Ok c.in_ok-merged.merged) merged_rows merged_keys in
    let kept = c.in_ok-merged.ensures.stays.kept ∙ stays.kept in
    let same = c.in_ok-merged.ensures.stays.same ∙ stays.same in
    let new = gs.map c.store.new.pages in
    let stores = since gs.below gs.tells gs.limits gs.map first c.merged.new.pages (λ (p : PageMap) (n : ℕ). Stores p new n (pair.left ∷ pair.right ∷ []) packed (Err c.in_err-fan.field-0.0)) kept same c.in_err-fan.ensures.stored told in
    full_err (IsJoinedAt old new size number (suc depth) low t high free) c.from_residual-in_err-fan.result c.in_err-fan.field-0.0 c.from_residual-in_err-fan.ensures.1
    (store_two old size number ways rowid depth low t high free under c.args.place pair at packed m new (Err c.in_err-fan.field-0.0) stores))

pub returns-in_err-load-clause-joined : goal.returns-in_err-load-clause-joined
returns-in_err-load-clause-joined g c = λ told ways rowid depth low t high free under.
    (let gs = g.P.Pages in
    let first = c.args.pages.now in
    let old = gs.map first in
    let size = (gs.limits (gs.below first)).page in
    let number = c.args.number in
    let kids = children (top depth) t.kids in
    let last = top depth t.last in
    let says = subst (λ (n : ℕ). Says old n (Keys kids last)) under.top_is (under.lies).0 in
    let stays = c.in_ok-pair.ensures.stays in
    let pair = c.in-Some.pair in
    let at = subst (λ (found : Option Pair). IsPairFound kids last c.args.place found) c.in-Some.is (c.in_ok-pair.ensures.found told kids last (under.free_are).whole says) in
    let there_left = left_there old size number ways rowid depth low t high free under c.args.place pair at in
    let there_right = right_there old size number ways rowid depth low t high free under c.args.place pair at in
    let merged_rows = since gs.below gs.tells gs.limits gs.map first c.pair_of.new.pages (λ (m : PageMap) (n : ℕ). IsThere m n pair.left → IsThere m n pair.right → MergesRows (page_at m pair.left) (page_at m pair.right) (Ok c.in_ok-merged.merged)) stays.kept stays.same
    c.in_ok-merged.ensures.rows told there_left there_right in
    let merged_keys = since gs.below gs.tells gs.limits gs.map first c.pair_of.new.pages (λ (m : PageMap) (n : ℕ). IsThere m n pair.left → IsThere m n pair.right → MergesKeys (page_at m pair.left) pair.cell.items (page_at m pair.right) (Ok c.in_ok-merged.merged)) stays.kept stays.same
    c.in_ok-merged.ensures.keys told there_left there_right in
    let packed = c.in_ok-merged.merged in
    let m = merged_or old size number ways rowid depth low t high free under c.args.place pair at (Ok c.in_ok-merged.merged) merged_rows merged_keys in
    let kept = c.in_ok-merged.ensures.stays.kept ∙ stays.kept in
    let same = c.in_ok-merged.ensures.stays.same ∙ stays.same in
    let new = gs.map c.store.new.pages in
    let stores = since gs.below gs.tells gs.limits gs.map first c.merged.new.pages (λ (p : PageMap) (n : ℕ). Stores p new n (pair.left ∷ pair.right ∷ []) packed (Ok c.in_ok-fan.fan)) kept same c.in_ok-fan.ensures.stored told in
    let fan = c.in_ok-fan.fan in
    let is = store_two old size number ways rowid depth low t high free under c.args.place pair at packed m new (Ok c.in_ok-fan.fan) stores in
    let kept_new = c.in_ok-fan.ensures.kept ∙ kept in
    let told_new = subst (λ k. IsTrue (gs.tells k)) (sym kept_new) told in
    outside_full (IsJoinedAt old (gs.map c.load.new.self) size number (suc depth) low t high free) c.from_residual-in_err-load.result c.in_err-load.field-0.0 c.from_residual-in_err-load.ensures.1
    (c.in_err-load.ensures.refusal told_new (subst (λ k. IsThere new (gs.limits k).page number) (sym kept_new) (page_there old size number ways rowid depth low t high free under c.args.place pair at packed m new fan is))))

pub returns-in_err-packed-clause-joined : goal.returns-in_err-packed-clause-joined
returns-in_err-packed-clause-joined g c = λ told ways rowid depth low t high free under.
    (let gs = g.P.Pages in
    let first = c.args.pages.now in
    let old = gs.map first in
    let size = (gs.limits (gs.below first)).page in
    let number = c.args.number in
    let kids = children (top depth) t.kids in
    let last = top depth t.last in
    let says = subst (λ (n : ℕ). Says old n (Keys kids last)) under.top_is (under.lies).0 in
    let stays = c.in_ok-pair.ensures.stays in
    let pair = c.in-Some.pair in
    let at = subst (λ (found : Option Pair). IsPairFound kids last c.args.place found) c.in-Some.is (c.in_ok-pair.ensures.found told kids last (under.free_are).whole says) in
    let there_left = left_there old size number ways rowid depth low t high free under c.args.place pair at in
    let there_right = right_there old size number ways rowid depth low t high free under c.args.place pair at in
    let merged_rows = since gs.below gs.tells gs.limits gs.map first c.pair_of.new.pages (λ (m : PageMap) (n : ℕ). IsThere m n pair.left → IsThere m n pair.right → MergesRows (page_at m pair.left) (page_at m pair.right) (Ok c.in_ok-merged.merged)) stays.kept stays.same
    c.in_ok-merged.ensures.rows told there_left there_right in
    let merged_keys = since gs.below gs.tells gs.limits gs.map first c.pair_of.new.pages (λ (m : PageMap) (n : ℕ). IsThere m n pair.left → IsThere m n pair.right → MergesKeys (page_at m pair.left) pair.cell.items (page_at m pair.right) (Ok c.in_ok-merged.merged)) stays.kept stays.same
    c.in_ok-merged.ensures.keys told there_left there_right in
    let packed = c.in_ok-merged.merged in
    let m = merged_or old size number ways rowid depth low t high free under c.args.place pair at (Ok c.in_ok-merged.merged) merged_rows merged_keys in
    let kept = c.in_ok-merged.ensures.stays.kept ∙ stays.kept in
    let same = c.in_ok-merged.ensures.stays.same ∙ stays.same in
    let new = gs.map c.store.new.pages in
    let stores = since gs.below gs.tells gs.limits gs.map first c.merged.new.pages (λ (p : PageMap) (n : ℕ). Stores p new n (pair.left ∷ pair.right ∷ []) packed (Ok c.in_ok-fan.fan)) kept same c.in_ok-fan.ensures.stored told in
    let fan = c.in_ok-fan.fan in
    let is = store_two old size number ways rowid depth low t high free under c.args.place pair at packed m new (Ok c.in_ok-fan.fan) stores in
    let kept_new = c.in_ok-fan.ensures.kept ∙ kept in
    let told_new = subst (λ k. IsTrue (gs.tells k)) (sym kept_new) told in
    let bytes : c.loaded.result.now ≡ page_at new number = c.loaded.ensures ∙ c.in_ok-load.ensures.bytes told_new in
    outside_full (IsJoinedAt old (gs.map c.load.new.self) size number (suc depth) low t high free) c.from_residual-in_err-packed.result c.in_err-packed.field-0.0 c.from_residual-in_err-packed.ensures.1
    (inl (joined_or old size number ways rowid depth low t high free under c.args.place pair at packed m new fan is c.loaded.result.now c.start_of.result (Err c.in_err-packed.field-0.0) bytes c.start_of.ensures c.in_err-packed.ensures.fans)))

pub returns-clause-joined : goal.returns-clause-joined
returns-clause-joined g c = λ told ways rowid depth low t high free under.
    (let gs = g.P.Pages in
    let first = c.args.pages.now in
    let old = gs.map first in
    let size = (gs.limits (gs.below first)).page in
    let number = c.args.number in
    let kids = children (top depth) t.kids in
    let last = top depth t.last in
    let says = subst (λ (n : ℕ). Says old n (Keys kids last)) under.top_is (under.lies).0 in
    let stays = c.in_ok-pair.ensures.stays in
    let pair = c.in-Some.pair in
    let at = subst (λ (found : Option Pair). IsPairFound kids last c.args.place found) c.in-Some.is (c.in_ok-pair.ensures.found told kids last (under.free_are).whole says) in
    let there_left = left_there old size number ways rowid depth low t high free under c.args.place pair at in
    let there_right = right_there old size number ways rowid depth low t high free under c.args.place pair at in
    let merged_rows = since gs.below gs.tells gs.limits gs.map first c.pair_of.new.pages (λ (m : PageMap) (n : ℕ). IsThere m n pair.left → IsThere m n pair.right → MergesRows (page_at m pair.left) (page_at m pair.right) (Ok c.in_ok-merged.merged)) stays.kept stays.same
    c.in_ok-merged.ensures.rows told there_left there_right in
    let merged_keys = since gs.below gs.tells gs.limits gs.map first c.pair_of.new.pages (λ (m : PageMap) (n : ℕ). IsThere m n pair.left → IsThere m n pair.right → MergesKeys (page_at m pair.left) pair.cell.items (page_at m pair.right) (Ok c.in_ok-merged.merged)) stays.kept stays.same
    c.in_ok-merged.ensures.keys told there_left there_right in
    let packed = c.in_ok-merged.merged in
    let m = merged_or old size number ways rowid depth low t high free under c.args.place pair at (Ok c.in_ok-merged.merged) merged_rows merged_keys in
    let kept = c.in_ok-merged.ensures.stays.kept ∙ stays.kept in
    let same = c.in_ok-merged.ensures.stays.same ∙ stays.same in
    let new = gs.map c.store.new.pages in
    let stores = since gs.below gs.tells gs.limits gs.map first c.merged.new.pages (λ (p : PageMap) (n : ℕ). Stores p new n (pair.left ∷ pair.right ∷ []) packed (Ok c.in_ok-fan.fan)) kept same c.in_ok-fan.ensures.stored told in
    let fan = c.in_ok-fan.fan in
    let is = store_two old size number ways rowid depth low t high free under c.args.place pair at packed m new (Ok c.in_ok-fan.fan) stores in
    let kept_new = c.in_ok-fan.ensures.kept ∙ kept in
    let told_new = subst (λ k. IsTrue (gs.tells k)) (sym kept_new) told in
    let bytes : c.loaded.result.now ≡ page_at new number = c.loaded.ensures ∙ c.in_ok-load.ensures.bytes told_new in
    joined_since old new (gs.map c.load.new.self) size number (suc depth) low t high free c.in_ok-packed.packed (c.in_ok-load.ensures.stays).same
    (joined_or old size number ways rowid depth low t high free under c.args.place pair at packed m new fan is c.loaded.result.now c.start_of.result (Ok c.in_ok-packed.packed) bytes c.start_of.ensures c.in_ok-packed.ensures.fans))
