use Rattle.std.proofs.Common.{rules, ap, codes, ◌≡◌, ◌∙◌, refl, true, map, List, Option, string_bytes, subst}
use Rattle.std.proofs.lemmas.Result.{IfErr-weaker, IfOk-weaker}
use Rattle.clap.specs.Words.{App, HasMatchesOf, Text, first_of, first_value, found_of, is_simple, matches_of, rows_of, takes}
use Rattle.clap.specs.declared.parser.matches.ArgMatches.{ArgMatches}
use Rattle.clap.proofs.OnLiterals.{clap_on_literals}
use Rattle.clap.proofs.WalkLemmas.{first_value-rows}
use Rattle.walsql_args.specs.declared.arguments.ArgsError.{ArgsError}
use Rattle.walsql_args.specs.Settings.{AreSettings, IsRefusalOf, value_in, walsql}
use Rattle.walsql_args.proofs.arguments.settings.Goals as goal

simple : is_simple walsql ≡ true
unfolding clap_on_literals
simple = refl

-- what the matches have is what the arguments have
same_values : (app : App) (arguments : List Text) (m : ArgMatches) → app ≡ walsql → HasMatchesOf app arguments m → first_value (found_of m) ≡ value_in arguments
same_values app arguments m app_is has =
    let rows_are : rows_of (found_of m) ≡ matches_of walsql arguments =
    (has (ap is_simple app_is ∙ simple)).0 ∙ ap (λ (a : App). matches_of a arguments) app_is in
    λ i id. (first_value-rows (found_of m) id ∙ ap (first_of id) rows_are) i

pub returns-in_err-matches-clause-refused : goal.returns-in_err-matches-clause-refused
returns-in_err-matches-clause-refused c = λ taken.
    let memory = c.in_err-matches.ensures.passes (ap (λ (a : App). takes a (map string_bytes c.args.arguments.now)) (c.in_ok-command.ensures.app) ∙ taken) in
    search (rules, memory)

pub returns-clause-given : goal.returns-clause-given
returns-clause-given c =
    let same = same_values _ (map string_bytes c.args.arguments.now) c.in_ok-matches.matches c.in_ok-command.ensures.app c.in_ok-matches.ensures.matches in
    IfOk-weaker c.settings_of.result _ _ (λ options h. subst (λ (value : Text → Option Text). AreSettings value options.page_size options.salts options.convert options.name.now) same h) c.settings_of.ensures.given

pub returns-clause-refused : goal.returns-clause-refused
returns-clause-refused c = λ taken.
    let same = same_values _ (map string_bytes c.args.arguments.now) c.in_ok-matches.matches c.in_ok-command.ensures.app c.in_ok-matches.ensures.matches in
    IfErr-weaker c.settings_of.result _ _ (λ (r : ArgsError) h. subst (λ (value : Text → Option Text). IsRefusalOf (value (codes "salt")) r) same h) c.settings_of.ensures.refused
