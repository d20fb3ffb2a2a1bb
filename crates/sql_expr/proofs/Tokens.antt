-- All tokens are seen as they are spelled.
use Rattle.std.proofs.Common.{◌≡◌, ℕ, ◌+◌, ◌<◌, List, [], ◌∷◌, ◌++◌, length, take, get_or, sym, ◌∙◌}
use Rattle.std.proofs.lemmas.List.{map_push, map_more}
use Rattle.std.proofs.lemmas.Option.{slice_get-get_or}
use Rattle.sql_lexer.specs.declared.token.Token.{Token}
use Rattle.sql_expr.specs.declared.token.TokenAt.{TokenAt}
use Rattle.sql_expr.specs.Symbols.{meant, symbols, seen, spelling_at, text_in}

pub one_more_token : (whole : List Token) (toks : List TokenAt) (i : ℕ) (d : Token) → i < length whole → seen whole toks ≡ symbols (take i whole)
    → seen whole (toks ++ record { kind = (get_or whole i d).kind; place = i } ∷ []) ≡ symbols (take (i + 1) whole)
one_more_token whole toks i d below h =
    let last : TokenAt = record { kind = (get_or whole i d).kind; place = i } in
    map_push (λ (t : TokenAt). meant t.kind (spelling_at whole t.place)) toks last
    ∙ (λ j. h j ++ meant (get_or whole i d).kind (text_in (slice_get-get_or whole i d below j)) ∷ [])
    ∙ sym (map_more (λ (t : Token). meant t.kind t.text.now) whole i d below)
