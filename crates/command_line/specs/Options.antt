-- The options of `serve`.
use Rattle.std.specs.Prelude.{◌≡◌, ◌<◌, ◌^◌, ℕ, Bool, true, List, [], ◌∷◌, codes, Some}
use Rattle.std.specs.Str.Parse.{IsNumeral, digits_value, without_leading_plus}
use Rattle.clap.specs.Values.{bool_text}
use Rattle.clap.specs.Words.{App, Row, Rule, Text, first_of, new_app, new_rule, one_of, with_rule}
use Rattle.clap.specs.declared.builder.action.ArgAction.TheVariants.{SetTrue}
use Rattle.clap.specs.declared.builder.value_parser.ValueParser.TheVariants.{Unsigned}
use Rattle.command_line.specs.declared.options.ServeOptions.{ServeOptions}

-- an option that takes a value
abbrev pub option : Text → Rule
option name = record (new_rule name) { long = Some name; value_names = 1 }

-- an option without a value, which is given or not
abbrev pub flag : Text → Rule
flag name = record (new_rule name) { long = Some name; action = Some SetTrue }

abbrev pub asked_for : Rule → Rule
asked_for a = record a { required = true }

-- of a whole number in a range
abbrev pub number_in : ℕ → ℕ → Rule → Rule
number_in least most a = record a { parser = Some (Unsigned least most) }

-- with its default value
abbrev pub otherwise : Text → Rule → Rule
otherwise value a = record a { defaults = value ∷ [] }

abbrev pub port : Rule
port = asked_for (number_in 1 65535 (option (codes "port")))

abbrev pub agents : Rule
agents = asked_for (option (codes "agents"))

abbrev pub state : Rule
state = asked_for (option (codes "state"))

abbrev pub interval : Rule
interval = otherwise (codes "1") (number_in 1 3600 (option (codes "interval")))

abbrev pub offer_seconds : Rule
offer_seconds = otherwise (codes "0") (number_in 0 86400 (option (codes "offer-seconds")))

abbrev pub task_seconds : Rule
task_seconds = otherwise (codes "10") (number_in 0 86400 (option (codes "task-seconds")))

abbrev pub connections : Rule
connections = otherwise (codes "0") (number_in 0 18446744073709551615 (option (codes "conns")))

abbrev pub idle_seconds : Rule
idle_seconds = otherwise (codes "75") (number_in 0 86400 (option (codes "idle-seconds")))

abbrev pub workers : Rule
workers = otherwise (codes "0") (number_in 0 8192 (option (codes "workers")))

abbrev pub memory : Rule
memory = otherwise (codes "0") (number_in 0 1048576 (option (codes "memory")))

abbrev pub keep_serving : Rule
keep_serving = flag (codes "keep-serving")

-- with the options that are required
abbrev pub with_required : App → App
with_required a = with_rule (with_rule (with_rule a port) agents) state

-- and with those that aren't
abbrev pub with_optional : App → App
with_optional a =
    with_rule (with_rule (with_rule (with_rule (with_rule (with_rule (with_rule (with_rule a interval)
    offer_seconds) task_seconds) connections) idle_seconds) workers) memory) keep_serving

-- the command `serve`
abbrev pub serve_command : App
serve_command = with_optional (with_required (new_app (codes "serve")))

-- an option has this number of so many bits in decimal digits, after an optional plus
pub record HasNumber (bits : ℕ) (rows : List Row) (id : Text) (n : ℕ) : Type 0 where
  pub text : Text
  pub found : one_of id rows ≡ Some text
  pub numeral : IsNumeral 10 (without_leading_plus text)
  pub fits : n < 2 ^ bits
  pub value : n ≡ digits_value 10 (without_leading_plus text)

-- a flag is given, or not
abbrev pub HasFlag : List Row → Text → Bool → Type 0
HasFlag rows id given = first_of id rows ≡ Some (bool_text given)

-- the options have these values
pub record HasOptions (rows : List Row) (o : ServeOptions) : Type 0 where
  pub port : HasNumber 16 rows (codes "port") o.port
  pub agents : first_of (codes "agents") rows ≡ Some o.agents.now
  pub state : first_of (codes "state") rows ≡ Some o.state.now
  pub interval : HasNumber 64 rows (codes "interval") o.interval
  pub offer_seconds : HasNumber 32 rows (codes "offer-seconds") o.offer_seconds
  pub task_seconds : HasNumber 64 rows (codes "task-seconds") o.task_seconds
  pub connections : HasNumber 64 rows (codes "conns") o.connections
  pub idle_seconds : HasNumber 64 rows (codes "idle-seconds") o.idle_seconds
  pub workers : HasNumber 32 rows (codes "workers") o.workers
  pub memory : HasNumber 64 rows (codes "memory") o.memory
  pub keep_serving : HasFlag rows (codes "keep-serving") o.keep_serving
