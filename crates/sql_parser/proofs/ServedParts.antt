-- No part of a statement that readers are made of is refused as one that isn't supported.
use Rattle.std.proofs.Common.{◌≡◌, ℕ, zero, suc, Bool, true, false, if◌then◌else◌, ℤ, Option, Some, None, List, [], ◌∷◌, ◌++◌, length, Result, Ok, refl}
use Rattle.sql_lexer.specs.declared.keyword.Keyword.{Keyword}
use Rattle.sql_lexer.specs.declared.keyword.Keyword.TheVariants as w
use Rattle.sql_lexer.specs.declared.token.Kind.{Kind}
use Rattle.sql_lexer.specs.declared.token.Kind.TheVariants as k
use Rattle.sql_syntax.specs.declared.create.TriggerStatement.{TriggerStatement}
use Rattle.sql_syntax.specs.declared.query.JoinKind.{JoinKind}
use Rattle.sql_syntax.specs.declared.query.JoinKind.TheVariants as join
use Rattle.sql_syntax.specs.declared.query.ResultItem.TheVariants as item
use Rattle.sql_expr.specs.declared.refusal.Refusal.{Refusal}
use Rattle.sql_expr.specs.Symbols.{Symbol, Plain, Text, Blob}
use Rattle.sql_expr.specs.Reading as r
use Rattle.sql_expr.specs.Reading.{◌>>=◌, after_word, word_from, mark_from, name_from, optional_from, after_comma}
use Rattle.sql_query.specs.ChangeReading as c
use Rattle.sql_parser.specs.ObjectReading as o
use Rattle.sql_query.specs.QueryReading as q
use Rattle.sql_grammar.specs.Readers.{Reader, yields, made, both, preceded, after_mark, before_mark, optionally, choose, choose_by, choose_comma, maybe, next_by, listed_upto, listed, more_by, many_upto, many, limited_by, limited}
use Rattle.sql_create.specs.IndexReading as index
use Rattle.sql_create.specs.TableReading as t
use Rattle.sql_parser.proofs.Served.{unsupported, Serves, bind, word_serves, mark_serves, name_serves, maybe_name_serves, names_serve, enclosed_serves, maybe_row_serves, expression_serves, expressions_serve, maybe_behind_serves}

-- ---- readers made of others

by_bool : {A : Type 0} (b : Bool) (x y : Result A Refusal) → unsupported x ≡ false → unsupported y ≡ false → unsupported (if b then x else y) ≡ false
by_bool true x y h l = h
by_bool false x y h l = l

pub yields_serves : {A : Type 0} (a : A) → Serves (yields a)
unfolding yields
yields_serves a ts = refl

module _ {A : Type 0} (p : Reader A) (P : Serves p) where
  pub made_serves : {B : Type 0} (f : A → B) → Serves (made f p)
  unfolding made
  made_serves f ts = bind (p ts) _ (P ts) (λ a. refl)

  pub behind_serves : (v : Keyword) → Serves (preceded v p)
  unfolding preceded
  behind_serves v ts = bind (word_from v ts) p (word_serves v ts) P

  behind_mark_serves : (m : Kind) → Serves (after_mark m p)
  unfolding after_mark
  behind_mark_serves m ts = bind (mark_from m ts) p (mark_serves m ts) P

  pub before_mark_serves : (m : Kind) → Serves (before_mark m p)
  unfolding before_mark
  before_mark_serves m ts = bind (p ts) _ (P ts) (λ a. bind (mark_from m a.1) _ (mark_serves m a.1) (λ rest. refl))

  pub optionally_serves : (v : Keyword) → Serves (optionally v p)
  unfolding optionally
  optionally_serves v ts = P (optional_from v ts)

  limited_serves : (fits : A → Bool) → Serves (limited fits p)
  unfolding limited
  limited_serves fits ts = bind (p ts) (λ a. limited_by a (fits a.0)) (P ts) (λ a. by_fit a (fits a.0))
    where
      by_fit : (a : A × List Symbol) (b : Bool) → unsupported (limited_by a b) ≡ false
      by_fit a true = refl
      by_fit a false = refl

  by_next : (go : List A → Reader (List A)) → ((found : List A) → Serves (go found)) → (found : List A) (ts : List Symbol) (x : Option (List Symbol)) → unsupported (next_by go found ts x) ≡ false
  by_next go s found ts (Some rest) = s found rest
  by_next go s found ts None = refl

  listed_upto_serves : (n : ℕ) (found : List A) → Serves (listed_upto p n found)
  unfolding listed_upto
  listed_upto_serves zero found ts = refl
  listed_upto_serves (suc n) found ts =
      bind (p ts) (λ a. next_by (listed_upto p n) (found ++ a.0 ∷ []) a.1 (after_comma a.1)) (P ts)
      (λ a. by_next (listed_upto p n) (listed_upto_serves n) (found ++ a.0 ∷ []) a.1 (after_comma a.1))

  listed_serves : Serves (listed p)
  unfolding listed
  listed_serves ts = listed_upto_serves (length ts) [] ts

module _ {A B : Type 0} (p : Reader A) (q : Reader B) (P : Serves p) (Q : Serves q) where
  pub both_serves : Serves (both p q)
  unfolding both
  both_serves ts = bind (p ts) _ (P ts) (λ a. bind (q a.1) _ (Q a.1) (λ b. refl))

module _ {A : Type 0} (p q : Reader A) (P : Serves p) (Q : Serves q) where
  pub choose_by_serves : (ts : List Symbol) (x : Option (List Symbol)) → unsupported (choose_by p q ts x) ≡ false
  choose_by_serves ts (Some rest) = P rest
  choose_by_serves ts None = Q ts

  pub choose_serves : (v : Keyword) → Serves (choose v p q)
  unfolding choose
  choose_serves v ts = choose_by_serves ts (after_word v ts)

  choose_comma_serves : Serves (choose_comma p q)
  unfolding choose_comma
  choose_comma_serves ts = choose_by_serves ts (after_comma ts)

maybe_serves : {A : Type 0} (p : Reader A) → Serves p → (v : Keyword) → Serves (maybe v p)
unfolding maybe
maybe_serves p P v = choose_serves _ _ (made_serves p P Some) (yields_serves None) v

module _ {A : Type 0} (p : Reader (Option A)) (P : Serves p) where
  many_upto_serves : (n : ℕ) (found : List A) → Serves (many_upto p n found)
  unfolding many_upto
  many_upto_serves zero found ts = refl
  many_upto_serves (suc n) found ts = bind (p ts) (λ a. more_by (many_upto p n) found a.0 a.1) (P ts) (λ a. by_more a.0 a.1 (many_upto_serves n))
    where
      by_more : (x : Option A) (rest : List Symbol) → ((found : List A) → Serves (many_upto p n found)) → unsupported (more_by (many_upto p n) found x rest) ≡ false
      by_more (Some a) rest s = s (found ++ a ∷ []) rest
      by_more None rest s = refl

  many_serves : Serves (many p)
  unfolding many
  many_serves ts = many_upto_serves (length ts) [] ts

-- ---- queries

integer_serves : Serves r.integer_from
unfolding r.integer_from
integer_serves [] = refl
integer_serves (Plain (k.Integer n) ∷ ts) = refl
integer_serves (_ ∷ ts) = refl

value_serves : Serves q.value_from
unfolding q.value_from
value_serves = made_serves _ (both_serves _ _ expression_serves (maybe_serves _ name_serves w.As)) q.value

named_serves : Serves q.named_from
unfolding q.named_from
named_serves ts = by_all (q.after_all_of ts)
  where
    by_all : (x : Option (List Symbol)) → unsupported (q.all_of_by ts x) ≡ false
    by_all (Some rest) = bind (name_from ts) _ (name_serves ts) (λ a. refl)
    by_all None = value_serves ts

result_serves : Serves q.result_from
unfolding q.result_from
result_serves ts = choose_by_serves _ _ (yields_serves item.All) named_serves ts (q.after_star ts)

results_serve : Serves q.results_from
unfolding q.results_from
results_serve = limited_serves _ (listed_serves _ result_serves) _

source_serves : Serves q.source_from
unfolding q.source_from q.alias_from
source_serves = made_serves _ (both_serves _ _ name_serves (choose_serves _ _ (made_serves _ name_serves Some) maybe_name_serves w.As)) q.source

join_kind_serves : Serves q.join_kind_from
unfolding q.join_kind_from
join_kind_serves =
    choose_comma_serves _ _ (yields_serves (Some join.Comma)) (choose_serves _ _ (yields_serves (Some join.Inner)) (choose_serves _ _ (behind_serves _ (yields_serves (Some join.Inner)) w.Join)
    (choose_serves _ _ (optionally_serves _ (behind_serves _ (yields_serves (Some join.Left)) w.Join) w.Outer) (yields_serves None) w.Left) w.Inner) w.Join)

on_serves : (kind : JoinKind) → Serves (q.on_from kind)
unfolding q.on_from
on_serves join.Comma = yields_serves None
on_serves join.Inner = made_serves _ (behind_serves _ expression_serves w.On) Some
on_serves join.Left = made_serves _ (behind_serves _ expression_serves w.On) Some

join_serves : (kind : JoinKind) → Serves (q.join_from kind)
unfolding q.join_from
join_serves kind = made_serves _ (both_serves _ _ source_serves (on_serves kind)) (q.joined kind)

next_join_serves : Serves q.next_join_from
unfolding q.next_join_from
next_join_serves ts = bind (q.join_kind_from ts) (λ a. q.join_by a.0 a.1) (join_kind_serves ts) (λ a. by_kind a.0 a.1)
  where
    by_kind : (x : Option JoinKind) (rest : List Symbol) → unsupported (q.join_by x rest) ≡ false
    by_kind None rest = refl
    by_kind (Some kind) rest = bind (q.join_from kind rest) _ (join_serves kind rest) (λ a. refl)

sources_serve : Serves q.sources_from
unfolding q.sources_from
sources_serve = made_serves _ (both_serves _ _ source_serves (limited_serves _ (many_serves _ next_join_serves) _)) q.from_clause

groups_serve : Serves q.groups_from
unfolding q.groups_from
groups_serve = choose_serves _ _ (behind_serves _ expressions_serve w.By) (yields_serves []) w.Group

term_serves : Serves q.term_from
unfolding q.term_from q.direction_from
term_serves =
    made_serves _ (both_serves _ _ expression_serves (choose_serves _ _ (yields_serves true) (choose_serves _ _ (yields_serves false) (yields_serves false) w.Asc) w.Desc)) q.term

order_serves : Serves q.order_from
unfolding q.order_from
order_serves = choose_serves _ _ (behind_serves _ (listed_serves _ term_serves) w.By) (yields_serves []) w.Order

limit_serves : Serves q.limit_from
unfolding q.limit_from
limit_serves = maybe_serves _ (made_serves _ (both_serves _ _ integer_serves (maybe_serves _ integer_serves w.Offset)) q.limit) w.Limit

pub selection_serves : Serves q.selection_from
unfolding q.selection_from q.distinct_from
selection_serves =
    made_serves _ (both_serves _ _ (both_serves _ _ (both_serves _ _ (both_serves _ _ (both_serves _ _ (both_serves _ _ (choose_serves _ _ (yields_serves true) (yields_serves false) w.Distinct) results_serve)
    (maybe_serves _ sources_serve w.From)) (maybe_behind_serves w.Where)) groups_serve) order_serves) limit_serves) q.query

query_serves : Serves q.query_from
unfolding q.query_from
query_serves = behind_serves _ selection_serves w.Select

-- ---- changes

insert_serves : Serves c.insert_from
unfolding c.insert_from c.insert_source_from
insert_serves =
    made_serves _ (both_serves _ _ (both_serves _ _ (behind_serves _ name_serves w.Into) maybe_row_serves)
    (choose_serves _ _ (made_serves _ (listed_serves _ (enclosed_serves r.expressions_from expressions_serve)) _) (made_serves _ query_serves _) w.Values)) c.insert

update_serves : Serves c.update_from
unfolding c.update_from c.assignment_from
update_serves =
    made_serves _ (both_serves _ _ (both_serves _ _ name_serves (behind_serves _ (listed_serves _ (made_serves _ (both_serves _ _ name_serves (behind_mark_serves _ expression_serves k.Equal)) c.assignment)) w.Set))
    (maybe_behind_serves w.Where)) c.update

delete_serves : Serves c.delete_from
unfolding c.delete_from
delete_serves = made_serves _ (both_serves _ _ (behind_serves _ name_serves w.From) (maybe_behind_serves w.Where)) c.delete

pub change_serves : Serves c.change_from
unfolding c.change_from
change_serves = choose_serves _ _ (made_serves _ insert_serves _) (choose_serves _ _ (made_serves _ update_serves _) (behind_serves _ (made_serves _ delete_serves _) w.Delete) w.Update) w.Insert

-- ---- tables

number_serves : (sign : ℕ → Option ℤ) → Serves (t.number_from sign)
unfolding t.number_from
number_serves sign ts = bind (r.integer_from ts) (λ a. t.number_by ts a.1 (sign a.0)) (integer_serves ts) (λ a. by_sign a.1 (sign a.0))
  where
    by_sign : (rest : List Symbol) (x : Option ℤ) → unsupported (t.number_by ts rest x) ≡ false
    by_sign rest (Some z) = refl
    by_sign rest None = refl

literal_serves : Serves t.literal_from
unfolding t.literal_from
literal_serves (Plain (k.Word w.Null) ∷ ts) = refl
literal_serves (Text z ∷ ts) = refl
literal_serves (Blob z ∷ ts) = refl
literal_serves ts = number_serves t.positive ts

signed_serves : Serves t.signed_from
unfolding t.signed_from
signed_serves ts = choose_by_serves _ _ (number_serves t.negative) literal_serves ts (t.after_minus ts)

sized_serves : Serves t.sized_from
unfolding t.sized_from t.sizes_from t.second_from
sized_serves ts =
    choose_by_serves _ _ (before_mark_serves _ (made_serves _ (both_serves _ _ integer_serves (choose_comma_serves _ _ (made_serves _ integer_serves (λ n. true)) (yields_serves false))) (λ n. true)) k.RightParen)
    (yields_serves false) ts (r.after_paren ts)

declared_serves : Serves t.declared_from
unfolding t.declared_from
declared_serves = made_serves _ (both_serves _ _ (many_serves _ maybe_name_serves) sized_serves) t.declared

column_rule_serves : Serves t.column_rule_from
unfolding t.column_rule_from
column_rule_serves =
    choose_serves _ _ (behind_serves _ (yields_serves _) w.Key) (choose_serves _ _ (yields_serves _) (choose_serves _ _ (behind_serves _ (yields_serves _) w.Null) (choose_serves _ _ (made_serves _ signed_serves _)
    (choose_serves _ _ (made_serves _ name_serves _) (choose_serves _ _ (made_serves _ (enclosed_serves r.expression_from expression_serves) _) (yields_serves None) w.Check) w.Collate) w.Default) w.Not) w.Unique) w.Primary

column_serves : Serves t.column_from
unfolding t.column_from
column_serves = made_serves _ (both_serves _ _ (both_serves _ _ name_serves declared_serves) (many_serves _ column_rule_serves)) t.column

next_column_serves : Serves t.next_column_from
unfolding t.next_column_from
next_column_serves ts = by_comma (after_comma ts)
  where
    by_comma : (x : Option (List Symbol)) → unsupported (t.next_column_by ts x) ≡ false
    by_comma (Some rest) = by_bool (t.begins_rule rest) (Ok (None, ts)) (t.column_from rest >>= λ a. Ok (Some a.0, a.1)) refl (bind (t.column_from rest) _ (column_serves rest) (λ a. refl))
    by_comma None = refl

columns_serve : Serves t.columns_from
unfolding t.columns_from
columns_serve ts =
    bind (t.column_from ts) (λ a. many_upto t.next_column_from (length a.1) (a.0 ∷ []) a.1) (column_serves ts) (λ a. many_upto_serves _ next_column_serves (length a.1) (a.0 ∷ []) a.1)

key_serves : Serves t.key_columns_from
unfolding t.key_columns_from
key_serves = limited_serves _ (enclosed_serves r.names_from names_serve) _

table_rule_serves : Serves t.table_rule_from
unfolding t.table_rule_from
table_rule_serves =
    choose_serves _ _ (behind_serves _ (made_serves _ key_serves _) w.Key) (choose_serves _ _ (made_serves _ key_serves _)
    (behind_serves _ (made_serves _ (enclosed_serves r.expression_from expression_serves) _) w.Check) w.Unique) w.Primary

table_serves : Serves t.table_from
unfolding t.table_from t.next_rule_from
table_serves =
    made_serves _ (both_serves _ _ (both_serves _ _ name_serves (behind_mark_serves _ (limited_serves _ columns_serve _) k.LeftParen))
    (before_mark_serves _ (many_serves _ (choose_comma_serves _ _ (made_serves _ table_rule_serves Some) (yields_serves None))) k.RightParen)) t.table

-- ---- views, indexes, triggers

view_serves : Serves o.view_from
unfolding o.view_from o.view_columns_from
view_serves = made_serves _ (both_serves _ _ (both_serves _ _ name_serves (limited_serves _ maybe_row_serves _)) (behind_serves _ query_serves w.As)) o.view

index_serves : Serves index.index_from
unfolding index.index_from index.unique_from index.index_column_from
index_serves =
    made_serves _ (both_serves _ _ (both_serves _ _ (both_serves _ _ (choose_serves _ _ (yields_serves true) (yields_serves false) w.Unique) (behind_serves _ name_serves w.Index)) (behind_serves _ name_serves w.On))
    (behind_mark_serves _ (before_mark_serves _ (limited_serves _ (listed_serves _ (made_serves _ (both_serves _ _ name_serves (maybe_serves _ name_serves w.Collate)) index.index_column)) _) k.RightParen) k.LeftParen)) index.index

time_serves : Serves o.time_from
unfolding o.time_from
time_serves = choose_serves _ _ (yields_serves _) (choose_serves _ _ (yields_serves _) (behind_serves _ (behind_serves _ (yields_serves _) w.Of) w.Instead) w.After) w.Before

event_serves : Serves o.event_from
unfolding o.event_from
event_serves = choose_serves _ _ (yields_serves _) (choose_serves _ _ (yields_serves _) (behind_serves _ (made_serves _ (maybe_serves _ names_serve w.Of) _) w.Update) w.Delete) w.Insert

each_row_serves : Serves o.each_row_from
unfolding o.each_row_from
each_row_serves = choose_serves _ _ (behind_serves _ (behind_serves _ (yields_serves true) w.Row) w.Each) (yields_serves false) w.For

program_serves : Serves o.program_from
unfolding o.program_from
program_serves = choose_serves _ _ (made_serves _ selection_serves _) (made_serves _ change_serves _) w.Select

by_end : (go : List TriggerStatement → Reader (List TriggerStatement)) → ((found : List TriggerStatement) → Serves (go found)) → (found : List TriggerStatement) (ts : List Symbol) (x : Option (List Symbol))
    → unsupported (o.end_by go found ts x) ≡ false
by_end go s found ts (Some rest) = refl
by_end go s found ts None = s found ts

body_upto_serves : (n : ℕ) (found : List TriggerStatement) → Serves (o.body_upto n found)
unfolding o.body_upto
body_upto_serves zero found ts = refl
body_upto_serves (suc n) found ts =
    bind (before_mark k.Semicolon o.program_from ts) (λ a. o.end_by (o.body_upto n) (found ++ a.0 ∷ []) a.1 (after_word w.End a.1)) (before_mark_serves _ program_serves k.Semicolon ts)
    (λ a. by_end (o.body_upto n) (body_upto_serves n) (found ++ a.0 ∷ []) a.1 (after_word w.End a.1))

body_serves : Serves o.body_from
unfolding o.body_from
body_serves ts = body_upto_serves (length ts) [] ts

trigger_serves : Serves o.trigger_from
unfolding o.trigger_from
trigger_serves =
    made_serves _ (both_serves _ _ (both_serves _ _ (both_serves _ _ (both_serves _ _ (both_serves _ _ (both_serves _ _ name_serves time_serves) event_serves) (behind_serves _ name_serves w.On)) each_row_serves)
    (maybe_behind_serves w.When)) (behind_serves _ body_serves w.Begin)) o.trigger

pub object_serves : Serves o.object_from
unfolding o.object_from
object_serves = choose_serves _ _ (made_serves _ table_serves _) (choose_serves _ _ (made_serves _ view_serves _) (choose_serves _ _ (made_serves _ trigger_serves _) (made_serves _ index_serves _) w.Trigger) w.View) w.Table
