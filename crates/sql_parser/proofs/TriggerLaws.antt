-- Triggers are read exactly.
use Rattle.std.proofs.Common.{◌≡◌, ℕ, zero, suc, ◌+◌, ◌-◌, ◌<◌, ◌≤◌, Bool, true, false, ◌&&◌, Option, Some, None, List, [], ◌∷◌, ◌++◌, length, Ok, Err, refl, sym, ap, subst, ◌∙◌, append_assoc, length-append, arith}
use Rattle.sql_lexer.specs.declared.keyword.Keyword.TheVariants as w
use Rattle.sql_lexer.specs.declared.token.Kind.TheVariants as k
use Rattle.sql_syntax.specs.Tree.{Tree}
use Rattle.sql_syntax.specs.declared.change.Change.{Change}
use Rattle.sql_syntax.specs.declared.create.TriggerDefinition.{TriggerDefinition}
use Rattle.sql_syntax.specs.declared.create.TriggerEvent.{TriggerEvent}
use Rattle.sql_syntax.specs.declared.create.TriggerEvent.TheVariants as event
use Rattle.sql_syntax.specs.declared.create.TriggerStatement.{TriggerStatement}
use Rattle.sql_syntax.specs.declared.create.TriggerStatement.TheVariants as program
use Rattle.sql_syntax.specs.declared.create.TriggerTime.{TriggerTime}
use Rattle.sql_syntax.specs.declared.create.TriggerTime.TheVariants as time
use Rattle.sql_expr.specs.declared.refusal.Refusal.TheVariants.{Syntax}
use Rattle.sql_expr.specs.Exact.{Used, Single}
use Rattle.sql_expr.specs.Follows.{Anything, EndsAfter, ends_list}
use Rattle.sql_expr.specs.Grammar.{IsExpression, IsName, IsNames, Optional, left_out, given, Preceded}
use Rattle.sql_expr.specs.Grammar as grammar
use Rattle.sql_expr.specs.Limits.{unlimited}
use Rattle.sql_expr.specs.Symbols.{Symbol, Plain, Name, word}
use Rattle.sql_expr.specs.Reading.{◌>>=◌, fail, after_word, word_from}
use Rattle.sql_expr.proofs.MarkTests.{mark_from_is, tells_semicolon}
use Rattle.sql_expr.proofs.Takes.{bind_ok, ok_is}
use Rattle.sql_expr.proofs.WordTests.{after_word_is, after_word_self}
use Rattle.sql_grammar.specs.Changes.{IsChange, is_change_within, EndsStatement}
use Rattle.sql_query.specs.ChangeReading.{change_from}
use Rattle.sql_grammar.specs.Queries.{IsSelection}
use Rattle.sql_query.specs.QueryReading.{selection_from}
use Rattle.sql_grammar.specs.Within.{all_fit, is_selection_within}
use Rattle.sql_grammar.specs.Parts.{Both, pair, Before, before}
use Rattle.sql_grammar.specs.Readers.{yields, made, preceded, before_mark, choose, limited_by}
use Rattle.sql_grammar.specs.Triggers as g
use Rattle.sql_grammar.specs.Triggers.{IsTime, IsEvent, IsEachRow, IsProgram, IsBody, IsTrigger, is_program_within, is_trigger_within}
use Rattle.sql_parser.specs.ObjectReading as reading
use Rattle.sql_parser.specs.ObjectReading.{time_from, event_from, each_row_from, program_from, end_by, body_upto, body_from, trigger_from}
use Rattle.sql_grammar.proofs.Bases.{exact_name, exact_names, exact_maybe_after}
use Rattle.sql_grammar.proofs.Chosen.{Made, Or, this, other, exact_making, exact_or, renamed}
use Rattle.sql_grammar.proofs.Law.{Law, tail_is, cons_is, never_both}
use Rattle.sql_grammar.proofs.Exact.{Nothing, exactly, reads, weaker, and_true, exact_both, exact_made, exact_maybe, exact_yields, exact_behind, exact_before_mark, any}
use Rattle.sql_grammar.proofs.MarkChoice.{semicolon_self}
use Rattle.sql_grammar.proofs.Endings.{follows_word}

-- ---- when

abbrev EndsEvent : List Symbol → Type 0
EndsEvent rest = (ends_list rest ≡ true) × (after_word w.Of rest ≡ None)

-- nothing, which stands for this
nothing_for : {A : Type 0} (F : List Symbol → Type 0) (a : A) → Law (yields a) (Nothing a) unlimited F
nothing_for F a = exact_yields a (Nothing a) unlimited F (refl, refl) refl (λ us b e. e)

abbrev InsteadOf : List Symbol → TriggerTime → Type 0
InsteadOf = Preceded (word w.Instead) (Preceded (word w.Of) (Nothing time.InsteadOf))

abbrev Times : List Symbol → TriggerTime → Type 0
Times = Or w.Before (Nothing time.Before) (Or w.After (Nothing time.After) InsteadOf)

time_forth : (us : List Symbol) (m : TriggerTime) → Times us m → IsTime us m
time_forth _ m (this e) = rw (e.0, e.1) g.before_row
time_forth _ m (other (this e)) = rw (e.0, e.1) g.after_row
time_forth _ m (other (other (grammar.preceded (grammar.preceded e)))) = rw (e.0, e.1) g.instead_of_row

time_back : (us : List Symbol) (m : TriggerTime) → IsTime us m → Times us m
time_back _ _ g.before_row = this (refl, refl)
time_back _ _ g.after_row = other (this (refl, refl))
time_back _ _ g.instead_of_row = other (other (grammar.preceded (grammar.preceded (refl, refl))))

instead_lacks : (us : List Symbol) (m : TriggerTime) (rest : List Symbol) → InsteadOf us m → Unit {0} → after_word w.After (us ++ rest) ≡ None
unfolding after_word
instead_lacks _ m rest (grammar.preceded i) f = refl

after_lacks : (us : List Symbol) (m : TriggerTime) (rest : List Symbol) → Or w.After (Nothing time.After) InsteadOf us m → Unit {0} → after_word w.Before (us ++ rest) ≡ None
unfolding after_word
after_lacks _ m rest (this i) f = refl
after_lacks _ m rest (other (grammar.preceded i)) f = refl

exact_time : Law time_from IsTime unlimited Anything
unfolding time_from
exact_time =
    renamed (exact_or w.Before (nothing_for Anything time.Before) (exact_or w.After (nothing_for Anything time.After) (exact_behind w.Instead (exact_behind w.Of (nothing_for Anything time.InsteadOf))) instead_lacks)
    after_lacks) IsTime time_forth time_back

-- ---- what sets it off

abbrev UpdateOf : List Symbol → TriggerEvent → Type 0
UpdateOf = Preceded (word w.Update) (Made event.Update (Optional (Preceded (word w.Of) IsNames)))

abbrev Events : List Symbol → TriggerEvent → Type 0
Events = Or w.Insert (Nothing event.Insert) (Or w.Delete (Nothing event.Delete) UpdateOf)

event_forth : (us : List Symbol) (e : TriggerEvent) → Events us e → IsEvent us e
event_forth _ e (this h) = rw (h.0, h.1) g.on_insert
event_forth _ e (other (this h)) = rw (h.0, h.1) g.on_delete
event_forth _ e (other (other (grammar.preceded (ns, o, same)))) = rw (← same) (g.on_update o)

event_back : (us : List Symbol) (e : TriggerEvent) → IsEvent us e → Events us e
event_back _ _ g.on_insert = this (refl, refl)
event_back _ _ g.on_delete = other (this (refl, refl))
event_back _ _ (g.on_update {names = ns} o) = other (other (grammar.preceded (ns, o, refl)))

update_lacks : (us : List Symbol) (e : TriggerEvent) (rest : List Symbol) → UpdateOf us e → EndsEvent rest → after_word w.Delete (us ++ rest) ≡ None
unfolding after_word
update_lacks _ e rest (grammar.preceded i) f = refl

delete_lacks : (us : List Symbol) (e : TriggerEvent) (rest : List Symbol) → Or w.Delete (Nothing event.Delete) UpdateOf us e → EndsEvent rest → after_word w.Insert (us ++ rest) ≡ None
unfolding after_word
delete_lacks _ e rest (this i) f = refl
delete_lacks _ e rest (other (grammar.preceded i)) f = refl

exact_event : Law event_from IsEvent unlimited EndsEvent
unfolding event_from
exact_event =
    renamed (exact_or w.Insert (nothing_for EndsEvent event.Insert) (exact_or w.Delete (nothing_for EndsEvent event.Delete)
    (exact_behind w.Update (exact_making (exact_maybe w.Of exact_names) event.Update unlimited (λ ns. sym (any ns)))) update_lacks) delete_lacks)
    IsEvent event_forth event_back

-- ---- FOR EACH ROW

abbrev EachRow : List Symbol → Bool → Type 0
EachRow = Or w.For (Preceded (word w.Each) (Preceded (word w.Row) (Nothing true))) (Nothing false)

each_forth : (us : List Symbol) (b : Bool) → EachRow us b → IsEachRow us b
each_forth _ b (this (grammar.preceded (grammar.preceded e))) = rw (e.0, e.1) g.each_row
each_forth us b (other e) = rw (e.0, e.1) g.each_row_unsaid

each_back : (us : List Symbol) (b : Bool) → IsEachRow us b → EachRow us b
each_back _ _ g.each_row_unsaid = other (refl, refl)
each_back _ _ g.each_row = this (grammar.preceded (grammar.preceded (refl, refl)))

abbrev NoFor : List Symbol → Type 0
NoFor rest = after_word w.For rest ≡ None

exact_each_row : Law each_row_from IsEachRow unlimited NoFor
unfolding each_row_from
exact_each_row =
    renamed (exact_or w.For (exact_behind w.Each (exact_behind w.Row (nothing_for NoFor true))) (nothing_for NoFor false) (λ us b rest e f. ap (λ (ys : List Symbol). after_word w.For (ys ++ rest)) e.0 ∙ f))
    IsEachRow each_forth each_back

-- ---- statements of a body

not_syntax : {A : Type 0} (a : A) (rest : List Symbol) (b : Bool) (n : ℕ) → limited_by (a, rest) b ≡ Err (Syntax n) → ⊥
not_syntax a rest true n h = cc
not_syntax a rest false n h = cc

no_select_change : (ts : List Symbol) → change_from (word w.Select ∷ ts) ≡ fail (word w.Select ∷ ts)
unfolding change_from choose after_word preceded word_from
no_select_change ts = refl

no_end_program : (ts : List Symbol) → before_mark k.Semicolon program_from (word w.End ∷ ts) ≡ fail (word w.End ∷ ts)
unfolding before_mark program_from made change_from choose after_word preceded word_from
no_end_program ts = refl

abbrev Program : List Symbol → TriggerStatement → Type 0
Program = Before (Plain k.Semicolon) IsProgram

some_program : (us : List Symbol) (p : TriggerStatement) → Program us p → 0 < length us
some_program _ p (before {ts = us} i) = omega (arith, length-append us (Plain k.Semicolon ∷ []))

-- what a body took after the statements that were found
record Takes (found : List TriggerStatement) (ts : List Symbol) (x : List TriggerStatement × List Symbol) : Type 0 where
  body : List TriggerStatement
  used : List Symbol
  parts : ts ≡ used ++ x.1
  at : IsBody used body
  within : all_fit is_program_within body ≡ true
  all : x.0 ≡ found ++ body

module _ (S : Law selection_from IsSelection is_selection_within EndsStatement) (C : Law change_from IsChange is_change_within EndsStatement) where
  no_select : (us : List Symbol) (c : Change) (rest : List Symbol) → IsChange us c → EndsStatement rest → after_word w.Select (us ++ rest) ≡ None
  no_select us c rest i f = by_found (after_word w.Select (us ++ rest)) refl
    where
      by_found : (o : Option (List Symbol)) → after_word w.Select (us ++ rest) ≡ o → o ≡ None
      by_found None h = refl
      by_found (Some ts) h =
          absurd (not_syntax c rest (is_change_within c) _ (sym (reads C us c rest i f) ∙ ap change_from (after_word_is w.Select (us ++ rest) ts h) ∙ no_select_change ts))

  abbrev Programs : List Symbol → TriggerStatement → Type 0
  Programs = Or w.Select (Made program.Select IsSelection) (Made program.Change IsChange)

  program_forth : (us : List Symbol) (p : TriggerStatement) → Programs us p → IsProgram us p
  program_forth _ p (this (q, i, same)) = rw (← same) (g.selects i)
  program_forth us p (other (c, i, same)) = rw (← same) (g.changes i)

  program_back : (us : List Symbol) (p : TriggerStatement) → IsProgram us p → Programs us p
  program_back _ _ (g.selects {q = q} i) = this (q, i, refl)
  program_back _ _ (g.changes {c = c} i) = other (c, i, refl)

  exact_program : Law program_from IsProgram is_program_within EndsStatement
  unfolding program_from
  exact_program =
      renamed (exact_or w.Select (exact_making S program.Select is_program_within (λ q. refl)) (exact_making C program.Change is_program_within (λ c. refl)) (λ us p rest m f. no_select us m.0 rest m.1 f))
      IsProgram program_forth program_back

  exact_closed : Law (before_mark k.Semicolon program_from) Program is_program_within Anything
  exact_closed = exact_before_mark k.Semicolon (mark_from_is k.Semicolon tells_semicolon) semicolon_self exact_program (λ rest. refl)

  no_end : (us : List Symbol) (p : TriggerStatement) (rest : List Symbol) → Program us p → after_word w.End (us ++ rest) ≡ None
  no_end us p rest i = by_found (after_word w.End (us ++ rest)) refl
    where
      by_found : (o : Option (List Symbol)) → after_word w.End (us ++ rest) ≡ o → o ≡ None
      by_found None h = refl
      by_found (Some ts) h =
          absurd (not_syntax p rest (is_program_within p) _ (sym (reads exact_closed us p rest i tt) ∙ ap (before_mark k.Semicolon program_from) (after_word_is w.End (us ++ rest) ts h) ∙ no_end_program ts))

  no_end_body : (us : List Symbol) (body : List TriggerStatement) (rest : List Symbol) → IsBody us body → after_word w.End (us ++ rest) ≡ None
  no_end_body _ _ rest (g.last_program {ps = us} {p = p} i) = ap (after_word w.End) (append_assoc us (word w.End ∷ []) rest) ∙ no_end us p (word w.End ∷ rest) i
  no_end_body _ _ rest (g.next_program {ps = us} {bs = vs} {p = p} i l) = ap (after_word w.End) (append_assoc us vs rest) ∙ no_end us p (vs ++ rest) i

  -- ---- bodies

  by_end : (n : ℕ) → ((found : List TriggerStatement) (ts : List Symbol) (x : List TriggerStatement × List Symbol) → body_upto n found ts ≡ Ok x → Takes found ts x)
      → (found : List TriggerStatement) (ts : List Symbol) (a : TriggerStatement × List Symbol) (u : Used Program is_program_within ts a) (x : List TriggerStatement × List Symbol) (o : Option (List Symbol))
      → after_word w.End a.1 ≡ o → end_by (body_upto n) (found ++ a.0 ∷ []) a.1 o ≡ Ok x → Takes found ts x
  by_end n ih found ts a u x (Some rest) e h =
      let whole = u.parts ∙ ap (λ (us : List Symbol). u.used ++ us) (after_word_is w.End a.1 rest e) ∙ sym (append_assoc u.used (word w.End ∷ []) rest) in
      subst (Takes found ts) (ok_is (found ++ a.0 ∷ [], rest) x h) (record {
        body = a.0 ∷ [];
        used = u.used ++ word w.End ∷ [];
        parts = whole;
        at = g.last_program u.at;
        within = and_true (is_program_within a.0) true u.within refl;
        all = refl;
      })
  by_end n ih found ts a u x None e h =
      let l = ih (found ++ a.0 ∷ []) a.1 x h in record {
        body = a.0 ∷ l.body;
        used = u.used ++ l.used;
        parts = u.parts ∙ ap (λ (us : List Symbol). u.used ++ us) l.parts ∙ sym (append_assoc u.used l.used x.1);
        at = g.next_program u.at l.at;
        within = and_true (is_program_within a.0) (all_fit is_program_within l.body) u.within l.within;
        all = l.all ∙ append_assoc found (a.0 ∷ []) l.body;
      }

  upto_takes : (n : ℕ) (found : List TriggerStatement) (ts : List Symbol) (x : List TriggerStatement × List Symbol) → body_upto n found ts ≡ Ok x → Takes found ts x
  unfolding body_upto
  upto_takes zero found ts x h = absurd cc
  upto_takes (suc n) found ts x h =
      let a = bind_ok (before_mark k.Semicolon program_from ts) (λ a. end_by (body_upto n) (found ++ a.0 ∷ []) a.1 (after_word w.End a.1)) x h in
      by_end n (upto_takes n) found ts a.0 (exact_closed.exact.takes ts a.0 a.1) x (after_word w.End a.0.1) refl a.2

  body_takes : (ts : List Symbol) (x : List TriggerStatement × List Symbol) → body_from ts ≡ Ok x → Used IsBody (all_fit is_program_within) ts x
  unfolding body_from
  body_takes ts x h =
      let l = upto_takes (length ts) [] ts x h in
      record { used = l.used; parts = l.parts; at = subst (IsBody l.used) (sym l.all) l.at; within = ap (all_fit is_program_within) l.all ∙ l.within }

  one_program : (n : ℕ) (found : List TriggerStatement) (ts rest : List Symbol) (p : TriggerStatement) (b : Bool) (o : Option (List Symbol)) → before_mark k.Semicolon program_from ts ≡ limited_by (p, rest) b
      → after_word w.End rest ≡ o → body_upto (suc n) found ts ≡ (limited_by (p, rest) b >>= λ a. end_by (body_upto n) (found ++ p ∷ []) rest o)
  unfolding body_upto
  one_program n found ts rest p true o h e = rw (h, e) refl
  one_program n found ts rest p false o h e = rw h refl

  upto_reads : {us : List Symbol} {body : List TriggerStatement} → IsBody us body → (n : ℕ) (found : List TriggerStatement) (rest : List Symbol) → length us ≤ n
      → body_upto n found (us ++ rest) ≡ limited_by (found ++ body, rest) (all_fit is_program_within body)
  upto_reads (g.last_program {ps = us} {p = p} i) n found rest long =
      let count : length (us ++ word w.End ∷ []) ≡ length us + 1 = length-append us (word w.End ∷ []) in
      let turn : n ≡ suc (n - 1) = omega arith in
      ap (λ (ts : List Symbol). body_upto n found ts) (append_assoc us (word w.End ∷ []) rest)
      ∙ ap (λ (m : ℕ). body_upto m found (us ++ word w.End ∷ rest)) turn
      ∙ one_program (n - 1) found (us ++ word w.End ∷ rest) (word w.End ∷ rest) p (is_program_within p) (Some rest) (reads exact_closed us p (word w.End ∷ rest) i tt) (after_word_self w.End rest)
      ∙ by_fit (is_program_within p)
    where
      by_fit : (b : Bool) → (limited_by (p, word w.End ∷ rest) b >>= λ a. end_by (body_upto (n - 1)) (found ++ p ∷ []) (word w.End ∷ rest) (Some rest)) ≡ limited_by (found ++ p ∷ [], rest) (b && true)
      by_fit true = refl
      by_fit false = refl
  upto_reads (g.next_program {ps = us} {bs = vs} {p = p} {body = body} i l) n found rest long =
      let some : 0 < length us = some_program us p i in
      let count : length (us ++ vs) ≡ length us + length vs = length-append us vs in
      let turn : n ≡ suc (n - 1) = omega arith in
      let inner = upto_reads l (n - 1) (found ++ p ∷ []) rest (omega arith) in
      ap (λ (ts : List Symbol). body_upto n found ts) (append_assoc us vs rest)
      ∙ ap (λ (m : ℕ). body_upto m found (us ++ (vs ++ rest))) turn
      ∙ one_program (n - 1) found (us ++ (vs ++ rest)) (vs ++ rest) p (is_program_within p) None (reads exact_closed us p (vs ++ rest) i tt) (no_end_body vs body rest l)
      ∙ by_fit (is_program_within p) inner
    where
      by_fit : (b : Bool) → body_upto (n - 1) (found ++ p ∷ []) (vs ++ rest) ≡ limited_by ((found ++ p ∷ []) ++ body, rest) (all_fit is_program_within body)
          → (limited_by (p, vs ++ rest) b >>= λ a. end_by (body_upto (n - 1)) (found ++ p ∷ []) (vs ++ rest) None) ≡ limited_by (found ++ p ∷ body, rest) (b && all_fit is_program_within body)
      by_fit true h = h ∙ ap (λ (ps : List TriggerStatement). limited_by (ps, rest) (all_fit is_program_within body)) (append_assoc found (p ∷ []) body)
      by_fit false h = refl

  single_body : Single IsBody Anything
  single_body _ _ _ _ rest after (g.last_program {ps = us} {p = p} i) (g.last_program {ps = vs} {p = r} j) f h same =
      let x = exact_closed.single us vs p r (word w.End ∷ rest) (word w.End ∷ after) i j tt tt (sym (append_assoc us (word w.End ∷ []) rest) ∙ same ∙ append_assoc vs (word w.End ∷ []) after) in
      (ap (λ (p : TriggerStatement). p ∷ []) x.0, tail_is (word w.End) rest after x.1)
  single_body _ _ _ _ rest after (g.last_program {ps = us} {p = p} i) (g.next_program {ps = vs} {bs = bs} {p = r} {body = body} j l) f h same =
      let x = exact_closed.single us vs p r (word w.End ∷ rest) (bs ++ after) i j tt tt (sym (append_assoc us (word w.End ∷ []) rest) ∙ same ∙ append_assoc vs bs after) in
      absurd (never_both (after_word w.End (bs ++ after)) rest (ap (after_word w.End) (sym x.1) ∙ after_word_self w.End rest) (no_end_body bs body after l))
  single_body _ _ _ _ rest after (g.next_program {ps = us} {bs = bs} {p = p} {body = body} i l) (g.last_program {ps = vs} {p = r} j) f h same =
      let x = exact_closed.single us vs p r (bs ++ rest) (word w.End ∷ after) i j tt tt (sym (append_assoc us bs rest) ∙ same ∙ append_assoc vs (word w.End ∷ []) after) in
      absurd (never_both (after_word w.End (bs ++ rest)) after (ap (after_word w.End) x.1 ∙ after_word_self w.End after) (no_end_body bs body rest l))
  single_body _ _ _ _ rest after (g.next_program {ps = us} {bs = bs} {p = p} {body = body} i l) (g.next_program {ps = vs} {bs = ds} {p = r} {body = others} j m) f h same =
      let x = exact_closed.single us vs p r (bs ++ rest) (ds ++ after) i j tt tt (sym (append_assoc us bs rest) ∙ same ∙ append_assoc vs ds after) in
      let y = single_body bs ds body others rest after l m tt tt x.1 in
      (cons_is x.0 y.0, y.1)

  exact_body : Law body_from IsBody (all_fit is_program_within) Anything
  unfolding body_from
  exact_body = exactly body_takes (λ us body rest l f. upto_reads l (length (us ++ rest)) [] rest (omega (arith, length-append us rest))) single_body

  -- ---- triggers

  abbrev Triggered : List Symbol → (((((List ℕ × TriggerTime) × TriggerEvent) × List ℕ) × Bool) × Option Tree) × List TriggerStatement → Type 0
  Triggered =
      Both (Both (Both (Both (Both (Both IsName IsTime) IsEvent) (Preceded (word w.On) IsName)) IsEachRow) (Optional (Preceded (word w.When) IsExpression))) (Preceded (word w.Begin) IsBody)

  trigger_forth : (us : List Symbol) (x : (((((List ℕ × TriggerTime) × TriggerEvent) × List ℕ) × Bool) × Option Tree) × List TriggerStatement) → Triggered us x → IsTrigger us (reading.trigger x)
  trigger_forth _ _ (pair (pair (pair (pair (pair (pair own m) e) (grammar.preceded target)) r) c) (grammar.preceded body)) = rw (own, target) (g.trigger m e r c body)

  trigger_back : (us : List Symbol) (d : TriggerDefinition) → IsTrigger us d
      → (x : (((((List ℕ × TriggerTime) × TriggerEvent) × List ℕ) × Bool) × Option Tree) × List TriggerStatement) × (Triggered us x) × (reading.trigger x ≡ d)
  trigger_back _ _ (g.trigger {ts = ts} {n = n} {t = t} {m = m} {e = e} {r = r} {condition = c} {body = body} i j s o l) =
      (((((((n, m), e), t), r), c), body), pair (pair (pair (pair (pair (pair {us = Name n ∷ []} refl i) j) (grammar.preceded refl)) s) o) (grammar.preceded l), refl)

  on_ends : (vs : List Symbol) (b : List ℕ) (rest : List Symbol) → Preceded (word w.On) IsName vs b → Unit {0} → EndsEvent (vs ++ rest)
  unfolding after_word
  on_ends _ b rest (grammar.preceded i) f = (refl, refl)

  abbrev EndsCondition : List Symbol → Type 0
  EndsCondition rest = EndsAfter w.When rest × (after_word w.For rest ≡ None)

  when_ends : (vs : List Symbol) (c : Option Tree) (rest : List Symbol) → Optional (Preceded (word w.When) IsExpression) vs c → EndsCondition rest → after_word w.For (vs ++ rest) ≡ None
  unfolding after_word
  when_ends _ _ rest left_out f = f.1
  when_ends _ _ rest (given (grammar.preceded i)) f = refl

  begin_ends : (vs : List Symbol) (body : List TriggerStatement) (rest : List Symbol) → Preceded (word w.Begin) IsBody vs body → Unit {0} → EndsCondition (vs ++ rest)
  unfolding after_word
  begin_ends _ body rest (grammar.preceded {ts = us} i) f = ((follows_word w.Begin (us ++ rest) refl, refl), refl)

  pub exact_trigger : Law trigger_from IsTrigger is_trigger_within Anything
  unfolding trigger_from
  exact_trigger =
      exact_made reading.trigger IsTrigger is_trigger_within
      (exact_both (exact_both (exact_both (exact_both (exact_both (exact_both exact_name exact_time (λ vs b rest s f. tt)) exact_event (λ vs b rest s f. tt)) (exact_behind w.On exact_name) on_ends)
      exact_each_row (λ vs b rest s f. tt)) (weaker EndsCondition (λ rest f. f.0) (exact_maybe_after w.When)) when_ends) (exact_behind w.Begin exact_body) begin_ends)
      trigger_forth trigger_back (λ x. refl)
