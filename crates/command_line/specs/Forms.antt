-- The words of the table of commands: a command's name, and then its options in any order, each at
-- most once, with values that aren't empty and don't begin with `-`.
use Rattle.std.specs.Prelude.{◌≡◌, ◌≢◌, ◌⊎◌, Bool, false, true, List, [], ◌∷◌, ◌++◌, codes, map, Some, None}
use Rattle.std.specs.List.{AllByRecursion, IsDistinct, list_any}
use Rattle.std.specs.Str.{bytes_eq}
use Rattle.clap.specs.Facts.{parser_of_value}
use Rattle.clap.specs.Words.{Accepts, Row, Rule, Text, first_of, one_of, subcommand_of}
use Rattle.clap.specs.declared.builder.action.ArgAction.TheVariants.{SetTrue}
use Rattle.command_line.specs.Commands.{command_line}
use Rattle.command_line.specs.Options.{serve_command}

-- an option as it is given: with the value behind it, or, for a flag, by itself
pub data Use : Type 0 where
  valued : Text → Text → Use
  flagged : Text → Use

-- the name of the option
abbrev pub name_in : Use → Text
name_in (valued name value) = name
name_in (flagged name) = name

-- the value that the option has then
abbrev pub value_in : Use → Text
value_in (valued name value) = value
value_in (flagged name) = codes "true"

-- `--name`
abbrev pub dashed : Text → Text
dashed name = 45 ∷ 45 ∷ name

-- `--name value`, or `--name`
abbrev pub words_in : Use → List Text
words_in (valued name value) = dashed name ∷ value ∷ []
words_in (flagged name) = dashed name ∷ []

-- the words of several uses, one after another
abbrev pub words_of : List Use → List Text
words_of [] = []
words_of (u ∷ uses) = words_in u ++ words_of uses

-- the words that serve with these options, the program's name first
abbrev pub serve_words : Text → List Use → List Text
serve_words program uses = program ∷ codes "serve" ∷ words_of uses

-- a value isn't empty, and doesn't begin with `-`
abbrev pub IsValue : Text → Type 0
IsValue [] = ⊥
IsValue (first ∷ rest) = first ≢ 45

-- the option takes what is given: a value that its parser accepts, or, a flag, none
abbrev pub TakesUse : Use → Rule → Type 0
TakesUse (valued name value) option = (option.id ≡ name) × (option.action ≡ None) × IsValue value
    × Accepts false (parser_of_value option.parser) value
TakesUse (flagged name) option = (option.id ≡ name) × (option.action ≡ Some SetTrue)

-- one of the options takes it
abbrev pub IsTakenByOne : List Rule → Use → Type 0
IsTakenByOne [] u = ⊥
IsTakenByOne (option ∷ rest) u = TakesUse u option ⊎ IsTakenByOne rest u

-- the options of `serve`
abbrev pub serve_options : List Rule
serve_options = serve_command.top.rules

-- an option of this name is given
abbrev pub is_named : Text → List Use → Bool
is_named name uses = list_any (λ u. bytes_eq (name_in u) name) uses

-- what is given are options of `serve`, each at most once, and those that are required are given
pub record IsForm (uses : List Use) : Type 0 where
  pub known : AllByRecursion (IsTakenByOne serve_options) uses
  pub once : IsDistinct bytes_eq (map name_in uses)
  pub complete : AllByRecursion (λ option. option.required ≡ true → is_named option.id uses ≡ true)
      serve_options

-- the words ask for `serve`, and each option that is given has its value: as its text, and as what
-- a number is read from
pub record HasValues (words : List Text) (uses : List Use) : Type 0 where
  pub rows : List Row
  pub command : subcommand_of command_line words ≡ Some (codes "serve", rows)
  pub values : AllByRecursion (λ u. (first_of (name_in u) rows ≡ Some (value_in u))
      × (one_of (name_in u) rows ≡ Some (value_in u))) uses
