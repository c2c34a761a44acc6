-- Words that the table of commands takes ask for an action.
use Rattle.std.proofs.Common.{◌≡◌, ◌||◌, Bool, arith, codes, cond, inl, inr, true, false, not, refl, subst, sym, List, [], ◌∷◌, Option, Some, None, is_some, true≢false}
use Rattle.std.specs.Prelude.{IfSome, option_map}
use Rattle.std.specs.Option.{option_map_or}
use Rattle.std.specs.Str.{bytes_eq}
use Rattle.std.proofs.lemmas.Slice.Eq.{bytes_eq-Decides}
use Rattle.clap.specs.Walk.{Held, Row, Text, finished, has_row, nothing_held, rows_after, settled, stop_after, walk, walk_from}
use Rattle.clap.specs.Simple.{App, Shape, argument_words, built, built_leaf, entered, help_shape, names_of, new_app, rows_at}
use Rattle.clap.specs.Takes.{is_given}
use Rattle.clap.specs.Faults.{check_fault, defaults_fault, entered_fault, level_fault, other_fault, settle_fault, walk_fault}
use Rattle.clap.specs.declared.error.kind.ErrorKind.TheVariants as kind
use Rattle.command_line.specs.declared.command.Action.{Action}
use Rattle.command_line.specs.declared.command.Action.TheVariants.{Calls, Replay, Serve}
use Rattle.command_line.specs.declared.options.ServeOptions.{ServeOptions}
use Rattle.command_line.specs.Commands.{AsksFor, IsAction, IsTaken, command_line}
use Rattle.command_line.specs.Options.{HasOptions, serve_command}
use Rattle.command_line.proofs.Walks.{Each, end_keeps, neither, walk_keeps}
use Rattle.command_line.proofs.Given.{Fits, Reads, default_given, defaults_fit, flag_given, found_fits, given_row, number_given, text_given, used_fits}

-- the table and its `serve`, as clap completes them
abbrev line : App
line = built command_line

abbrev serve : Shape
serve = built_leaf serve_command.top

serve_reads : Each (Reads serve.rules) serve.rules
serve_reads =
    ((refl, inr (inl (refl, refl))), ((refl, inr (inl (refl, refl))), ((refl, inr (inl (refl, refl))), ((refl, inr (inl (refl, refl))), ((refl, inr (inl (refl, refl))), ((refl, inr (inl (refl, refl))), ((refl, inr (inl (refl, refl))), ((refl, inr (inl (refl, refl))), ((refl, inr (inl (refl, refl))), ((refl, inr (inl (refl, refl))), ((refl, inr (inr (refl, omega arith))), ((refl, inl refl), tt))))))))))))

-- the rows of options that `serve` takes
serve_fits : (words : List Text) → level_fault serve [] nothing_held words false [] ≡ [] → Each (Fits serve.rules) (rows_after serve.rules [] words)
serve_fits words e =
    let end = (walk serve.rules [] nothing_held words).held in
    let walks = neither (walk_fault serve [] (walk_from nothing_held) words) _ e in
    let settles = neither (settle_fault serve.rules serve.args_override_self end) _ walks.1 in
    let defaults = neither (defaults_fault (settled serve.rules end).rows serve.rules) _ settles.1 in
    let by_use = used_fits serve.rules serve.args_override_self in
    let kept = walk_keeps serve (Reads serve.rules) (Each (Fits serve.rules)) (λ _. Unit {0}) serve_reads by_use (λ name word h none. tt) [] words (walk_from nothing_held) walks.0 (tt, tt) in
    let ends = end_keeps serve (Reads serve.rules) (Each (Fits serve.rules)) (λ _. Unit {0}) serve_reads by_use (λ name word h none. tt) end settles.0 kept.0 in
    defaults_fit serve.rules serve.rules (settled serve.rules end).rows serve_reads defaults.0 ends

-- the three that have to be given are
three_given : (a b d other : Bool) → cond (not a || (not b || (not d || other))) (kind.MissingRequiredArgument ∷ []) [] ≡ [] → (a ≡ true) × (b ≡ true) × (d ≡ true)
three_given true true true other e = (refl, refl, refl)
three_given false b d other e = cc
three_given true false d other e = cc
three_given true true false other e = cc

-- the values of the eleven options
options_read : (rows : List Row) → Each (Fits serve.rules) rows → is_given (codes "port") rows ≡ true → is_given (codes "agents") rows ≡ true → is_given (codes "state") rows ≡ true
    → has_row (codes "interval") rows ≡ true → has_row (codes "offer-seconds") rows ≡ true → has_row (codes "task-seconds") rows ≡ true → has_row (codes "conns") rows ≡ true → has_row (codes "idle-seconds") rows ≡ true → has_row (codes "workers") rows ≡ true
    → has_row (codes "memory") rows ≡ true → has_row (codes "keep-serving") rows ≡ true → (o : ServeOptions) × HasOptions rows o
options_read rows fits port agents state interval offer_seconds task_seconds connections idle_seconds workers memory keep_serving =
    let row = λ (id : Text) (has : has_row id rows ≡ true). found_fits serve.rules id rows has fits in
    let p = row (codes "port") (given_row (codes "port") rows port) in
    let a = row (codes "agents") (given_row (codes "agents") rows agents) in
    let s = row (codes "state") (given_row (codes "state") rows state) in
    let i = row (codes "interval") interval in
    let o = row (codes "offer-seconds") offer_seconds in
    let t = row (codes "task-seconds") task_seconds in
    let c = row (codes "conns") connections in
    let d = row (codes "idle-seconds") idle_seconds in
    let w = row (codes "workers") workers in
    let m = row (codes "memory") memory in
    let k = row (codes "keep-serving") keep_serving in
    let port_is = number_given 16 1 65535 false rows (codes "port") p.0 p.1 p.2.0 p.2.1 p.2.2 (omega arith) in
    let agents_is = text_given rows (codes "agents") a.0 a.1 a.2.2 in
    let state_is = text_given rows (codes "state") s.0 s.1 s.2.2 in
    let interval_is = number_given 64 1 3600 false rows (codes "interval") i.0 i.1 i.2.0 i.2.1 i.2.2 (omega arith) in
    let offer_seconds_is = number_given 32 0 86400 false rows (codes "offer-seconds") o.0 o.1 o.2.0 o.2.1 o.2.2 (omega arith) in
    let task_seconds_is = number_given 64 0 86400 false rows (codes "task-seconds") t.0 t.1 t.2.0 t.2.1 t.2.2 (omega arith) in
    let connections_is = number_given 64 0 18446744073709551615 false rows (codes "conns") c.0 c.1 c.2.0 c.2.1 c.2.2 (omega arith) in
    let idle_seconds_is = number_given 64 0 86400 false rows (codes "idle-seconds") d.0 d.1 d.2.0 d.2.1 d.2.2 (omega arith) in
    let workers_is = number_given 32 0 8192 false rows (codes "workers") w.0 w.1 w.2.0 w.2.1 w.2.2 (omega arith) in
    let memory_is = number_given 64 0 1048576 false rows (codes "memory") m.0 m.1 m.2.0 m.2.1 m.2.2 (omega arith) in
    let keep_serving_is = flag_given false rows (codes "keep-serving") k.0 k.1 k.2.1 k.2.2 in (
      record {
        port = port_is.0;
        agents = record { ref_ptr = (0, 0); now = agents_is.0 };
        state = record { ref_ptr = (0, 0); now = state_is.0 };
        interval = interval_is.0;
        offer_seconds = offer_seconds_is.0;
        task_seconds = task_seconds_is.0;
        connections = connections_is.0;
        idle_seconds = idle_seconds_is.0;
        workers = workers_is.0;
        memory = memory_is.0;
        keep_serving = keep_serving_is.0;
      },
      record {
        port = port_is.1;
        agents = agents_is.1;
        state = state_is.1;
        interval = interval_is.1;
        offer_seconds = offer_seconds_is.1;
        task_seconds = task_seconds_is.1;
        connections = connections_is.1;
        idle_seconds = idle_seconds_is.1;
        workers = workers_is.1;
        memory = memory_is.1;
        keep_serving = keep_serving_is.1;
      },
    )

-- the words behind `serve`
serve_taken : (words : List Text) → level_fault serve [] nothing_held words false [] ≡ [] → (o : ServeOptions) × HasOptions (rows_after serve.rules [] words) o
serve_taken words e =
    let end = (walk serve.rules [] nothing_held words).held in
    let rows = rows_after serve.rules [] words in
    let before = (settled serve.rules end).rows in
    let walks = neither (walk_fault serve [] (walk_from nothing_held) words) _ e in
    let settles = neither (settle_fault serve.rules serve.args_override_self end) _ walks.1 in
    let defaults = neither (defaults_fault before serve.rules) _ settles.1 in
    let given = three_given (is_given (codes "port") rows) (is_given (codes "agents") rows) (is_given (codes "state") rows) _ defaults.1 in
    options_read rows (serve_fits words e) given.0 given.1 given.2
    (default_given (codes "interval") serve.rules before refl) (default_given (codes "offer-seconds") serve.rules before refl) (default_given (codes "task-seconds") serve.rules before refl) (default_given (codes "conns") serve.rules before refl)
    (default_given (codes "idle-seconds") serve.rules before refl) (default_given (codes "workers") serve.rules before refl)
    (default_given (codes "memory") serve.rules before refl) (default_given (codes "keep-serving") serve.rules before refl)

-- a walk through the table's own words stops at no help
stops_at_command : (words : List Text) → walk_fault line.top (names_of line) (walk_from nothing_held) words ≡ []
    → IfSome (stop_after line.top.rules (names_of line) words) (λ p. p.0 ≡ codes "help" → ⊥)
stops_at_command words e =
    (walk_keeps line.top (λ _. Unit {0}) (λ _. Unit {0}) (λ name. name ≡ codes "help" → ⊥) (tt, (tt, tt)) (λ a values rows q none k. tt)
    (λ name word h none help. no_help name word h help none) (names_of line) words (walk_from nothing_held) e (tt, tt)).1
  where
    no_help : (name word : Text) (h : Held) → name ≡ codes "help" → other_fault line.top (Some name) word h ≡ [] → ⊥
    no_help name word h help none =
        let bad : kind.DisplayHelp ∷ kind.InvalidSubcommand ∷ [] ≡ [] = subst (λ t. other_fault line.top (Some t) word h ≡ []) help none in
        cc

-- the command that a word names, by the tests of the four names
abbrev named : Bool → Bool → Bool → Bool → Option Shape
named calls replay serves help =
    cond calls (Some (built_leaf (new_app (codes "calls")).top)) (cond replay (Some (built_leaf (new_app (codes "replay")).top)) (cond serves (Some serve) (cond help (Some (built_leaf help_shape)) None)))

-- the command that was met is one of the three
command_taken : (words : List Text) (calls replay serves help : Bool) → (help ≡ true → ⊥) → is_some (option_map (λ s. rows_at s words) (named calls replay serves help)) ≡ true
    → option_map_or (λ s. level_fault s [] nothing_held words false []) (named calls replay serves help) [] ≡ []
    → (a : Action) × (name : Text) × (rows : List Row) × (option_map (λ s. rows_at s words) (named calls replay serves help) ≡ Some (name, rows)) × IsAction name rows a
command_taken words true replay serves help no_help some none = (Calls, codes "calls", rows_after (built_leaf (new_app (codes "calls")).top).rules [] words, refl, refl)
command_taken words false true serves help no_help some none = (Replay, codes "replay", rows_after (built_leaf (new_app (codes "replay")).top).rules [] words, refl, refl)
command_taken words false false true help no_help some none =
    let taken = serve_taken words none in
    (Serve taken.0, codes "serve", rows_after serve.rules [] words, refl, (refl, taken.1))
command_taken words false false false true no_help some none = absurd (no_help refl)
command_taken words false false false false no_help some none = absurd (true≢false (sym some))

-- a stop that is no help
stop_taken : (stop : Option (Text × List Text)) → IfSome stop (λ p. p.0 ≡ codes "help" → ⊥) → is_some (entered line stop) ≡ true → entered_fault line stop ≡ []
    → (a : Action) × (name : Text) × (rows : List Row) × (entered line stop ≡ Some (name, rows)) × IsAction name rows a
stop_taken None no_help some none = absurd (true≢false (sym some))
stop_taken (Some p) no_help some none =
    command_taken p.1 (bytes_eq (codes "calls") p.0 || false) (bytes_eq (codes "replay") p.0 || false) (bytes_eq (codes "serve") p.0 || false) (bytes_eq (codes "help") p.0 || false) (help_is (bytes_eq (codes "help") p.0) refl) some none
  where
    help_is : (b : Bool) → bytes_eq (codes "help") p.0 ≡ b → (b || false) ≡ true → ⊥
    help_is true same e = no_help (sym ((bytes_eq-Decides (codes "help") p.0).0 same))
    help_is false same e = true≢false (sym e)

-- the table wants a command
wants_command : (has : Bool) (rows : List Row) → check_fault line.top rows has ≡ [] → has ≡ true
wants_command true rows e = refl
wants_command false rows e =
    let bad : kind.MissingSubcommand ∷ [] ≡ [] = e in
    cc

pub words_ask : (words : List Text) → IsTaken words → (a : Action) × AsksFor words a
words_ask words e =
    let after = argument_words line words in
    let end = (walk line.top.rules (names_of line) nothing_held after).held in
    let stop = stop_after line.top.rules (names_of line) after in
    let walks = neither (walk_fault line.top (names_of line) (walk_from nothing_held) after) _ e in
    let below = neither (entered_fault line stop) _ walks.1 in
    let settles = neither (settle_fault line.top.rules line.top.args_override_self end) _ below.1 in
    let defaults = neither (defaults_fault (settled line.top.rules end).rows line.top.rules) _ settles.1 in
    let some = wants_command (is_some (entered line stop)) (finished line.top.rules end) defaults.1 in
    let taken = stop_taken stop (stops_at_command after walks.0) some below.0 in
    (taken.0, record { name = taken.1; rows = taken.2; command = taken.3; named = taken.4 })
