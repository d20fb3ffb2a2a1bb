use Rattle.std.proofs.Common.{List, ◌++◌, ◌∷◌, [], ap, sym, ◌∙◌, string_bytes, ℕ, Some, None}
use Rattle.std.specs.Borrow.{Bor}
use Rattle.std.proofs.lemmas.Str.Pattern.{split_parts}
use Rattle.sql_expr.specs.Spelling.{undoubled}
use Rattle.sql_expr.proofs.Quotes.{quotes_step, quotes_end, behind_is}
use Rattle.sql_expr.proofs.literals.undoubled.Goals as goal

pub returns : goal.returns
returns c = λ low.
    c.in_ok-push_str-2.ensures.bytes
    ∙ quotes_end c.args.quote c.args.text.now (string_bytes c.quotes.plain) c.quotes.rest.now (c.quotes.invariant.0 low) (split_parts c.args.quote c.quotes.rest.now None c.in_default.ensures.cases low)

pub quotes-preserved : goal.quotes-preserved
quotes-preserved c = (
  λ low.
      let parts = split_parts c.args.quote c.quotes.rest.now (Some (c.in-Some.front, c.in-Some.back)) c.in-Some.ensures.cases low in
      let grown = c.in_ok-push.ensures.bytes ∙ ap (λ (y : List ℕ). string_bytes c.push_str.new.self ++ y) (c.in_ok-push.ensures.ascii low) ∙ ap (λ (y : List ℕ). y ++ c.args.quote ∷ []) c.in_ok-push_str.ensures.bytes in
      let preceded = behind_is c.args.quote c.in-Some.back c.strip_prefix.result c.strip_prefix.ensures.cases low ∙ sym (ap (λ (y : Bor (List ℕ)). undoubled c.args.quote y.now) c.unwrap_or-rest.ensures) in
      ap (λ (y : List ℕ). y ++ undoubled c.args.quote c.unwrap_or-rest.result.now) grown
      ∙ quotes_step c.args.quote c.args.text.now (string_bytes c.quotes.plain) c.quotes.rest.now c.in-Some.front.now c.in-Some.back.now c.unwrap_or-rest.result.now (c.quotes.invariant.0 low) parts.0 parts.1 preceded,
  c.unwrap_or-rest.utf8,
)
