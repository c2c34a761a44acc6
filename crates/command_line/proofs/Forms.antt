-- Words of the table's form have no fault, and each option that is given has its value.
use Rattle.std.proofs.Common.{◌≡◌, ◌≢◌, ◌∙◌, ◌||◌, ◌⊎◌, ℕ, Bool, ap, codes, cond, inl, inr, true, false, refl, subst, sym, List, [], ◌∷◌, ◌++◌, map, Some, None, is_some, true≢false}
use Rattle.std.specs.Prelude.{find, fold}
use Rattle.std.specs.List.{AllByRecursion, IsDistinct}
use Rattle.std.specs.Option.{option_or}
use Rattle.std.specs.Str.{bytes_eq}
use Rattle.std.proofs.lemmas.Bool.{ne_eqb, or_from}
use Rattle.std.proofs.lemmas.List.{append-nil, append_assoc}
use Rattle.std.proofs.lemmas.List.Folds.{find-append, list_any-append}
use Rattle.std.proofs.lemmas.Map.Keys.{IsDistinct-head, IsDistinct-tail}
use Rattle.std.proofs.lemmas.Slice.Eq.{bytes_eq-Decides}
use Rattle.clap.specs.Lexer.{long_of}
use Rattle.clap.specs.Facts.{parser_of_value, unwrap_or_range}
use Rattle.clap.specs.Values.{Accepts}
use Rattle.clap.specs.Walk.{Held, Names, Row, Rule, Text, Walk, action_of, arg_by_id, arg_by_long, at_row, default_rows, finished, first_of, has_row, is_empty, more_values, most_values, nothing_held, one_of, option, reading_by, settled, takes_values, used, walk, walk_from, walked, with_default, with_values, without}
use Rattle.clap.specs.Simple.{App, Shape, built, built_leaf, entered, filled, names_of}
use Rattle.clap.specs.Takes.{is_given}
use Rattle.clap.specs.Kinds.{Kinds, or_else}
use Rattle.clap.specs.Faults.{check_fault, default_fault, defaults_fault, entered_fault, given_default_fault, level_fault, settle_fault, turn_fault, values_fault, walk_fault}
use Rattle.clap.proofs.KindLemmas.{value_kinds-ok}
use Rattle.clap.specs.declared.builder.action.ArgAction.TheVariants.{Set, SetTrue}
use Rattle.clap.specs.declared.builder.value_parser.Reading.TheVariants.{AsWritten}
use Rattle.clap.specs.declared.parser.matches.ValueSource.TheVariants.{CommandLine, DefaultValue}
use Rattle.command_line.specs.Commands.{IsTaken, command_line}
use Rattle.command_line.specs.Forms.{HasValues, IsForm, IsTakenByOne, IsValue, TakesUse, Use, dashed, flagged, is_named, name_in, serve_options, serve_words, value_in, valued, words_in, words_of}
use Rattle.command_line.specs.Options.{serve_command}

-- two steps without a fault
neither_fails : (a b : Kinds) → a ≡ [] → b ≡ [] → or_else a b ≡ []
neither_fails a b none next = rw none next

same_text : (text : Text) → bytes_eq text text ≡ true
same_text text = (bytes_eq-Decides text text).1 refl

-- ---- rows

-- a new row goes to the end
at_no_row : (id : Text) (change : Row → List Row) (missing rows : List Row) → has_row id rows ≡ false → at_row id change missing rows ≡ rows ++ missing
at_no_row id change missing [] none = refl
at_no_row id change missing (r ∷ rs) none = go (at_no_row id change missing rs) (bytes_eq r.id id) none
  where
    go : (has_row id rs ≡ false → at_row id change missing rs ≡ rs ++ missing) → (b : Bool) → (b || has_row id rs) ≡ false
        → cond b (change r ++ rs) (r ∷ at_row id change missing rs) ≡ r ∷ (rs ++ missing)
    go ih true e = absurd (true≢false e)
    go ih false e = ap (λ more. r ∷ more) (ih e)

no_row : (id : Text) (rows : List Row) → has_row id rows ≡ false → find (λ x. bytes_eq x.id id) rows ≡ None
no_row id [] none = refl
no_row id (r ∷ rs) none = go (no_row id rs) (bytes_eq r.id id) none
  where
    go : (has_row id rs ≡ false → find (λ x. bytes_eq x.id id) rs ≡ None) → (b : Bool) → (b || has_row id rs) ≡ false → cond b (Some r) (find (λ x. bytes_eq x.id id) rs) ≡ None
    go ih true e = absurd (true≢false e)
    go ih false e = ih e

-- what is found first stays when more rows come
abbrev Stays : List Row → List Row → Type 0
Stays rows more = (id : Text) (r : Row) → find (λ x. bytes_eq x.id id) rows ≡ Some r → find (λ x. bytes_eq x.id id) more ≡ Some r

stays_before : (rows more : List Row) → Stays rows (rows ++ more)
stays_before rows more id r found = find-append (λ x. bytes_eq x.id id) rows more ∙ ap (λ o. option_or o (find (λ x. bytes_eq x.id id) more)) found

found_last : (rows : List Row) (r : Row) → has_row r.id rows ≡ false → find (λ x. bytes_eq x.id r.id) (rows ++ r ∷ []) ≡ Some r
found_last rows r none =
    find-append (λ x. bytes_eq x.id r.id) rows (r ∷ [])
    ∙ (ap (λ o. option_or o (find (λ x. bytes_eq x.id r.id) (r ∷ []))) (no_row r.id rows none) ∙ ap (λ b. cond b (Some r) None) (same_text r.id))

-- the row of an option that is given
abbrev row_in : Rule → Use → Row
row_in b u = record {
  id = name_in u;
  values = value_in u ∷ [];
  count = None;
  source = Some CommandLine;
  reading = reading_by b;
}

new_values : (b : Rule) (u : Use) (rows : List Row) → has_row (name_in u) rows ≡ false
    → with_values (name_in u) (reading_by b) CommandLine (value_in u ∷ []) (without (name_in u) rows) ≡ rows ++ row_in b u ∷ []
new_values b u rows none =
    let kept : without (name_in u) rows ≡ rows = at_no_row (name_in u) (λ _. []) [] rows none ∙ append_nil rows in
    rw kept (at_no_row (name_in u) (more_values CommandLine (value_in u ∷ [])) (row_in b u ∷ []) rows none)
  where
    append_nil : (xs : List Row) → xs ++ [] ≡ xs
    append_nil [] = refl
    append_nil (x ∷ xs) = ap (λ more. x ∷ more) (append_nil xs)

-- ---- what a parse reads of an option of the table

-- an option that takes one value
record IsValued (a b : Rule) : Type 0 where
  unnamed : a.action ≡ None
  action : action_of b ≡ Set
  least : (unwrap_or_range b.range).start_inclusive ≡ 1
  most : most_values b ≡ 1
  taking : takes_values b ≡ true
  parser : parser_of_value b.parser ≡ parser_of_value a.parser
  case : b.ignore_case ≡ false
  reading : reading_by b ≡ AsWritten

-- a flag
record IsFlag (a b : Rule) : Type 0 where
  flag : a.action ≡ Some SetTrue
  action : action_of b ≡ SetTrue
  least : (unwrap_or_range b.range).start_inclusive ≡ 0
  most : most_values b ≡ 0
  taking : takes_values b ≡ false
  missing : b.missing ≡ codes "true" ∷ []
  passes : values_fault b (codes "true" ∷ []) ≡ []
  reading : reading_by b ≡ AsWritten

-- an option, and how clap completes it, found by its id and by its long name
record IsOption (c : List Rule) (a b : Rule) : Type 0 where
  same : b.id ≡ a.id
  by_id : arg_by_id c a.id ≡ Some b
  by_long : arg_by_long c a.id ≡ Some b
  word : long_of (dashed a.id) ≡ Some (a.id, None)
  no_end : bytes_eq (dashed a.id) (45 ∷ 45 ∷ []) ≡ false
  kind : IsValued a b ⊎ IsFlag a b

-- the option that takes a use
abbrev TakenBy : List Rule → Use → Type 0
TakenBy c u = (a : Rule) × (b : Rule) × IsOption c a b × TakesUse u a

taken_by : (c options : List Rule) (u : Use) → AllByRecursion (λ a. IsOption c a (filled a)) options → IsTakenByOne options u → TakenBy c u
taken_by c [] u each taken = absurd taken
taken_by c (a ∷ rest) u each (inl taken) = (a, filled a, each.0, taken)
taken_by c (a ∷ rest) u each (inr taken) = taken_by c rest u each.1 taken

all_taken_by : (c options : List Rule) (uses : List Use) → AllByRecursion (λ a. IsOption c a (filled a)) options → AllByRecursion (IsTakenByOne options) uses → AllByRecursion (TakenBy c) uses
all_taken_by c options [] each taken = tt
all_taken_by c options (u ∷ uses) each taken = (taken_by c options u each taken.0, all_taken_by c options uses each taken.1)

-- no row has the name of one of these
abbrev Free : List Use → List Row → Type 0
Free uses rows = AllByRecursion (λ u. has_row (name_in u) rows ≡ false) uses

-- each of these has its row
abbrev Given : List Row → List Use → Type 0
Given rows uses = AllByRecursion (λ u. (b : Rule) × (reading_by b ≡ AsWritten) × (find (λ r. bytes_eq r.id (name_in u)) rows ≡ Some (row_in b u))) uses

-- one row more, with another name
still_free : (uses : List Use) (rows : List Row) (r : Row) → Free uses rows → AllByRecursion (λ name. bytes_eq r.id name ≡ false) (map name_in uses) → Free uses (rows ++ r ∷ [])
still_free [] rows r free others = tt
still_free (u ∷ uses) rows r free others =
    (list_any-append (λ x. bytes_eq x.id (name_in u)) rows (r ∷ []) ∙ or_from _ _ free.0 (or_from _ false others.0 refl), still_free uses rows r free.1 others.1)

module _ (s : Shape) (again : s.args_override_self ≡ false) where
  -- a word that is taken, and where the walk stands then
  record Turn (w : Walk) (word : Text) (after : Walk) : Type 0 where
    fault : turn_fault s [] w word ≡ []
    next : walked s.rules [] w word ≡ after

  turn_passes : (w after : Walk) (word : Text) (rest : List Text) → Turn w word after → walk_fault s [] w (word ∷ rest) ≡ walk_fault s [] after rest
  unfolding walk_fault
  turn_passes w after word rest t = rw t.fault (ap (λ x. walk_fault s [] x rest) t.next)

  -- the words of a use are taken, and what is held then has its row
  record Step (u : Use) (h : Held) : Type 0 where
    after : Held
    rule : Rule
    reading : reading_by rule ≡ AsWritten
    fault : (rest : List Text) → walk_fault s [] (walk_from h) (words_in u ++ rest) ≡ walk_fault s [] (walk_from after) rest
    walks : (rest : List Text) → fold (walked s.rules []) (walk_from h) (words_in u ++ rest) ≡ fold (walked s.rules []) (walk_from after) rest
    settles : settle_fault s.rules s.args_override_self after ≡ []
    rows : (settled s.rules after).rows ≡ (settled s.rules h).rows ++ row_in rule u ∷ []

  -- what is held once the name of an option was read, and once its value was
  abbrev name_held : Text → Held → Held
  name_held name h = record (settled s.rules h) { pending = Some (name, []) }

  abbrev value_held : Text → Text → Held → Held
  value_held name value h = record (settled s.rules h) { pending = Some (name, value ∷ []) }

  abbrev waiting_for : Text → Held → Walk
  waiting_for name h = record { held = h; waiting = option name; position = 1; is_trailing = false; stopped = None }

  name_turn : (a b : Rule) (h : Held) → IsOption s.rules a b → IsValued a b → settle_fault s.rules s.args_override_self h ≡ []
      → Turn (walk_from h) (dashed a.id) (waiting_for a.id (name_held a.id h))
  unfolding walked
  name_turn a b h o k none = record {
    fault = rw (o.no_end, o.word, o.by_long, k.taking, none);
    next = rw (o.no_end, o.word, o.by_long, k.taking, o.same);
  }

  value_turn : (a b : Rule) (h : Held) (x : ℕ) (xs : Text) → IsOption s.rules a b → IsValued a b → x ≢ 45
      → Turn (waiting_for a.id (name_held a.id h)) (x ∷ xs) (walk_from (value_held a.id (x ∷ xs) h))
  unfolding walked
  value_turn a b h x xs o k plain =
      let no_hyphen = ne_eqb x 45 plain in
      record {
        fault = rw (no_hyphen, no_hyphen);
        next = rw (no_hyphen, no_hyphen, o.by_id, o.same, same_text a.id, k.most);
      }

  valued_step : (a b : Rule) (h : Held) (value : Text) → IsOption s.rules a b → IsValued a b → IsValue value → Accepts false (parser_of_value a.parser) value
      → settle_fault s.rules s.args_override_self h ≡ [] → has_row a.id (settled s.rules h).rows ≡ false → Step (valued a.id value) h
  valued_step a b h [] o k plain accepted none free = absurd plain
  valued_step a b h (x ∷ xs) o k plain accepted none free =
      let first = name_turn a b h o k none in
      let second = value_turn a b h x xs o k plain in
      record {
        after = value_held a.id (x ∷ xs) h;
        rule = b;
        reading = k.reading;
        fault = λ rest. turn_passes _ _ (dashed a.id) ((x ∷ xs) ∷ rest) first ∙ turn_passes _ _ (x ∷ xs) rest second;
        walks = λ rest. ap (λ w. fold (walked s.rules []) (walked s.rules [] w (x ∷ xs)) rest) first.next ∙ ap (λ w. fold (walked s.rules []) w rest) second.next;
        settles = rw (o.by_id, k.least, k.most, k.action, o.same, free, k.case, k.parser, value_kinds-ok false (parser_of_value a.parser) (x ∷ xs) accepted);
        rows = rw (o.by_id, k.action, o.same) (new_values b (valued a.id (x ∷ xs)) (settled s.rules h).rows free);
      }

  flag_turn : (a b : Rule) (h : Held) → IsOption s.rules a b → IsFlag a b → settle_fault s.rules s.args_override_self h ≡ [] → has_row a.id (settled s.rules h).rows ≡ false
      → Turn (walk_from h) (dashed a.id) (walk_from (record h { rows = used b [] (settled s.rules h).rows; pending = None }))
  unfolding walked
  flag_turn a b h o k none free = record {
    fault = rw (o.no_end, o.word, o.by_long, k.taking, none, k.least, k.most, k.action, o.same, free, k.missing, k.passes);
    next = rw (o.no_end, o.word, o.by_long, k.taking);
  }

  flag_step : (a b : Rule) (h : Held) → IsOption s.rules a b → IsFlag a b → settle_fault s.rules s.args_override_self h ≡ [] → has_row a.id (settled s.rules h).rows ≡ false
      → Step (flagged a.id) h
  flag_step a b h o k none free =
      let turn = flag_turn a b h o k none free in
      record {
        after = record h { rows = used b [] (settled s.rules h).rows; pending = None };
        rule = b;
        reading = k.reading;
        fault = λ rest. turn_passes _ _ (dashed a.id) rest turn;
        walks = λ rest. ap (λ w. fold (walked s.rules []) w rest) turn.next;
        settles = refl;
        rows = rw (k.action, k.missing, o.same) (new_values b (flagged a.id) (settled s.rules h).rows free);
      }

  step : (u : Use) (h : Held) → TakenBy s.rules u → settle_fault s.rules s.args_override_self h ≡ [] → has_row (name_in u) (settled s.rules h).rows ≡ false → Step u h
  step (valued name value) h (a, b, o, taken) none free = subst (λ n. Step (valued n value) h) taken.0 (by_kind o.kind)
    where
      by_kind : IsValued a b ⊎ IsFlag a b → Step (valued a.id value) h
      by_kind (inl k) = valued_step a b h value o k taken.2 taken.3 none (rw taken.0 free)
      by_kind (inr k) =
          let bad : Some SetTrue ≡ None = sym k.flag ∙ taken.1 in
          cc
  step (flagged name) h (a, b, o, taken) none free = subst (λ n. Step (flagged n) h) taken.0 (by_kind o.kind)
    where
      by_kind : IsValued a b ⊎ IsFlag a b → Step (flagged a.id) h
      by_kind (inl k) =
          let bad : Some SetTrue ≡ None = sym taken.1 ∙ k.unnamed in
          cc
      by_kind (inr k) = flag_step a b h o k none (rw taken.0 free)

  -- once all these were read: what is pending has no fault, the rows before stay, and each has its row
  record Ends (uses : List Use) (rows : List Row) (h : Held) : Type 0 where
    settles : settle_fault s.rules s.args_override_self h ≡ []
    stays : Stays rows (settled s.rules h).rows
    given : Given (settled s.rules h).rows uses

  walk_uses : (uses : List Use) (h : Held) → AllByRecursion (TakenBy s.rules) uses → settle_fault s.rules s.args_override_self h ≡ [] → Free uses (settled s.rules h).rows
      → IsDistinct bytes_eq (map name_in uses)
      → (walk_fault s [] (walk_from h) (words_of uses) ≡ []) × Ends uses (settled s.rules h).rows (fold (walked s.rules []) (walk_from h) (words_of uses)).held
  unfolding walk_fault
  walk_uses [] h taken none free once = (refl, record { settles = none; stays = λ id r found. found; given = tt })
  walk_uses (u ∷ uses) h taken none free once =
      let one = step u h taken.0 none free.0 in
      let before = (settled s.rules h).rows in
      let r = row_in one.rule u in
      let more = walk_uses uses one.after taken.1 one.settles (subst (Free uses) (sym one.rows) (still_free uses before r free.1 (IsDistinct-head bytes_eq (name_in u) (map name_in uses) once))) (IsDistinct-tail bytes_eq (name_in u) (map name_in uses) once) in
      let end = (fold (walked s.rules []) (walk_from one.after) (words_of uses)).held in
      let stays : Stays (before ++ r ∷ []) (settled s.rules end).rows = subst (λ rows. Stays rows (settled s.rules end).rows) one.rows more.1.stays in (
        one.fault (words_of uses) ∙ more.0,
        subst (λ w. Ends (u ∷ uses) before w.held) (sym (one.walks (words_of uses))) (record {
          settles = more.1.settles;
          stays = λ id x found. stays id x (stays_before before (r ∷ []) id x found);
          given = ((one.rule, one.reading, stays (name_in u) r (found_last before r free.0)), more.1.given);
        }),
      )

-- ---- defaults

-- the option has no default, or one that it takes
abbrev TakesDefault : Rule → Type 0
TakesDefault b = (is_empty b.defaults ≡ true) ⊎ (given_default_fault b b.defaults ≡ [])

default_passes : (b : Rule) (rows : List Row) → TakesDefault b → default_fault rows b ≡ []
default_passes b rows takes = go (has_row b.id rows) takes
  where
    go : (has : Bool) → TakesDefault b → cond (has || is_empty b.defaults) [] (given_default_fault b b.defaults) ≡ []
    go true taken = refl
    go false (inl none) = rw none
    go false (inr passes) = last (is_empty b.defaults) passes
      where
        last : (empty : Bool) → given_default_fault b b.defaults ≡ [] → cond empty [] (given_default_fault b b.defaults) ≡ []
        last true passes = refl
        last false passes = passes

defaults_pass : (rules : List Rule) (rows : List Row) → AllByRecursion TakesDefault rules → defaults_fault rows rules ≡ []
unfolding defaults_fault
defaults_pass [] rows takes = refl
defaults_pass (b ∷ rest) rows takes = neither_fails _ _ (default_passes b rows takes.0) (defaults_pass rest (with_default rows b) takes.1)

default_stays : (b : Rule) (rows : List Row) → Stays rows (with_default rows b)
default_stays b rows id r found = go (has_row b.id rows) refl b.defaults
  where
    go : (has : Bool) → has_row b.id rows ≡ has → (values : List Text)
        → find (λ x. bytes_eq x.id id) (cond has rows (default_rows b.id (reading_by b) values rows)) ≡ Some r
    go true e values = found
    go false e [] = found
    go false e (v ∷ vs) =
        rw (at_no_row b.id (more_values DefaultValue (v ∷ vs)) (record { id = b.id; values = v ∷ vs; count = None; source = Some DefaultValue; reading = reading_by b } ∷ []) rows e)
        (stays_before rows _ id r found)

defaults_stay : (rules : List Rule) (rows : List Row) → Stays rows (fold with_default rows rules)
defaults_stay [] rows id r found = found
defaults_stay (b ∷ rest) rows id r found = defaults_stay rest (with_default rows b) id r (default_stays b rows id r found)

given_stay : (uses : List Use) (rows more : List Row) → Stays rows more → Given rows uses → Given more uses
given_stay [] rows more stays given = tt
given_stay (u ∷ uses) rows more stays given = ((given.0.0, given.0.1, stays (name_in u) (row_in given.0.0 u) given.0.2), given_stay uses rows more stays given.1)

-- what is given has its value
values_given : (uses : List Use) (rows : List Row) → Given rows uses → AllByRecursion (λ u. (first_of (name_in u) rows ≡ Some (value_in u)) × (one_of (name_in u) rows ≡ Some (value_in u))) uses
values_given [] rows given = tt
values_given (u ∷ uses) rows given = ((rw given.0.2, rw (given.0.2, given.0.1)), values_given uses rows given.1)

-- and counts as given
is_given_named : (id : Text) (uses : List Use) (rows : List Row) → Given rows uses → is_named id uses ≡ true → is_given id rows ≡ true
is_given_named id [] rows given e = absurd (true≢false (sym e))
is_given_named id (u ∷ uses) rows given e = go (is_given_named id uses rows given.1) (bytes_eq (name_in u) id) refl e
  where
    go : (is_named id uses ≡ true → is_given id rows ≡ true) → (same : Bool) → bytes_eq (name_in u) id ≡ same → (same || is_named id uses) ≡ true → is_given id rows ≡ true
    go ih true same e = subst (λ name. is_given name rows ≡ true) ((bytes_eq-Decides (name_in u) id).0 same) (rw given.0.2)
    go ih false same e = ih e

-- ---- the table

abbrev line : App
line = built command_line

abbrev serve : Shape
serve = built_leaf serve_command.top

an_option : (a : Rule) → arg_by_id serve.rules a.id ≡ Some (filled a) → arg_by_long serve.rules a.id ≡ Some (filled a) → long_of (dashed a.id) ≡ Some (a.id, None)
    → bytes_eq (dashed a.id) (45 ∷ 45 ∷ []) ≡ false → IsValued a (filled a) ⊎ IsFlag a (filled a) → IsOption serve.rules a (filled a)
an_option a by_id by_long word no_end kind = record { same = refl; by_id = by_id; by_long = by_long; word = word; no_end = no_end; kind = kind }

valued_option : (a : Rule) → a.action ≡ None → action_of (filled a) ≡ Set → (unwrap_or_range (filled a).range).start_inclusive ≡ 1 → most_values (filled a) ≡ 1 → takes_values (filled a) ≡ true
    → parser_of_value (filled a).parser ≡ parser_of_value a.parser → (filled a).ignore_case ≡ false → reading_by (filled a) ≡ AsWritten → IsValued a (filled a) ⊎ IsFlag a (filled a)
valued_option a unnamed action least most taking parser case reading =
    inl (record { unnamed = unnamed; action = action; least = least; most = most; taking = taking; parser = parser; case = case; reading = reading })

serve_has : AllByRecursion (λ a. IsOption serve.rules a (filled a)) serve_options
serve_has = (an_option _ refl refl refl refl (valued_option _ refl refl refl refl refl refl refl refl), (an_option _ refl refl refl refl (valued_option _ refl refl refl refl refl refl refl refl), (an_option _ refl refl refl refl (valued_option _ refl refl refl refl refl refl refl refl), (an_option _ refl refl refl refl (valued_option _ refl refl refl refl refl refl refl refl), (an_option _ refl refl refl refl (valued_option _ refl refl refl refl refl refl refl refl), (an_option _ refl refl refl refl (valued_option _ refl refl refl refl refl refl refl refl), (an_option _ refl refl refl refl (valued_option _ refl refl refl refl refl refl refl refl), (an_option _ refl refl refl refl (valued_option _ refl refl refl refl refl refl refl refl), (an_option _ refl refl refl refl (valued_option _ refl refl refl refl refl refl refl refl), (an_option _ refl refl refl refl (valued_option _ refl refl refl refl refl refl refl refl), (an_option _ refl refl refl refl (inr (record { flag = refl; action = refl; least = refl; most = refl; taking = refl; missing = refl; passes = refl; reading = refl })), tt)))))))))))

-- each option of `serve`, and its `--help`, takes its default
serve_defaults : AllByRecursion TakesDefault serve.rules
serve_defaults = (inl refl, (inl refl, (inl refl, (inr refl, (inr refl, (inr refl, (inr refl, (inr refl, (inr refl, (inr refl, (inr refl, (inl refl, tt))))))))))))

free_at_first : (uses : List Use) → Free uses []
free_at_first [] = tt
free_at_first (u ∷ uses) = (refl, free_at_first uses)

abbrev serve_end : List Use → Held
serve_end uses = (walk serve.rules [] nothing_held (words_of uses)).held

serve_walk : (uses : List Use) → IsForm uses → (walk_fault serve [] (walk_from nothing_held) (words_of uses) ≡ []) × Ends serve refl uses [] (serve_end uses)
serve_walk uses form = walk_uses serve refl uses nothing_held (all_taken_by serve.rules serve_options uses serve_has form.known) refl (free_at_first uses) form.once

serve_given : (uses : List Use) → IsForm uses → Given (finished serve.rules (serve_end uses)) uses
serve_given uses form =
    let before = (settled serve.rules (serve_end uses)).rows in
    given_stay uses before (finished serve.rules (serve_end uses)) (defaults_stay serve.rules before) (serve_walk uses form).1.given

serve_passes : (uses : List Use) → IsForm uses → level_fault serve [] nothing_held (words_of uses) false [] ≡ []
serve_passes uses form =
    let rows = finished serve.rules (serve_end uses) in
    let walks = serve_walk uses form in
    let given = serve_given uses form in
    let port = is_given_named (codes "port") uses rows given (form.complete.0 refl) in
    let agents = is_given_named (codes "agents") uses rows given (form.complete.1.0 refl) in
    let state = is_given_named (codes "state") uses rows given (form.complete.1.1.0 refl) in
    neither_fails _ _ walks.0
    (neither_fails _ _ walks.1.settles
    (neither_fails _ _ (defaults_pass serve.rules (settled serve.rules (serve_end uses)).rows serve_defaults) (rw (port, agents, state))))

-- ---- the command's name

-- a walk that stopped at a command keeps the words behind it
stopped_walk : (c : List Rule) (names : Names) (w : Walk) (name : Text) (before rest : List Text)
    → fold (walked c names) (record w { stopped = Some (name, before) }) rest ≡ record w { stopped = Some (name, before ++ rest) }
unfolding walked
stopped_walk c names w name before [] = ap (λ words. record w { stopped = Some (name, words) }) (sym (append-nil before))
stopped_walk c names w name before (word ∷ rest) =
    stopped_walk c names w name (before ++ word ∷ []) rest ∙ ap (λ words. record w { stopped = Some (name, words) }) (append_assoc before (word ∷ []) rest)

stopped_passes : (s : Shape) (names : Names) (w : Walk) (name : Text) (before rest : List Text) → walk_fault s names (record w { stopped = Some (name, before) }) rest ≡ []
unfolding walk_fault walked
stopped_passes s names w name before [] = refl
stopped_passes s names w name before (word ∷ rest) = stopped_passes s names w name (before ++ word ∷ []) rest

-- where a walk over the name of `serve` and more words ends
abbrev at_serve : List Text → Walk
at_serve words = record (walk_from nothing_held) { stopped = Some (codes "serve", words) }

ends_at_serve : (words : List Text) → walk line.top.rules (names_of line) nothing_held (codes "serve" ∷ words) ≡ at_serve words
unfolding walked
ends_at_serve words = stopped_walk line.top.rules (names_of line) (walk_from nothing_held) (codes "serve") [] words

pub serve_is_taken : (program : Text) (uses : List Use) → IsForm uses → IsTaken (serve_words program uses)
unfolding walk_fault walked defaults_fault
serve_is_taken program uses form =
    let words = words_of uses in
    subst (λ (w : Walk). or_else (walk_fault line.top (names_of line) (walk_from nothing_held) (codes "serve" ∷ words)) (or_else (entered_fault line w.stopped)
    (or_else (settle_fault line.top.rules line.top.args_override_self w.held) (or_else (defaults_fault (settled line.top.rules w.held).rows line.top.rules)
    (check_fault line.top (finished line.top.rules w.held) (is_some (entered line w.stopped)))))) ≡ []) (sym (ends_at_serve words))
    (neither_fails _ _ (stopped_passes line.top (names_of line) (walk_from nothing_held) (codes "serve") [] words) (neither_fails _ _ (serve_passes uses form) refl))

pub calls_is_taken : (program : Text) → IsTaken (program ∷ codes "calls" ∷ [])
unfolding walk_fault walked defaults_fault
calls_is_taken program = refl

pub replay_is_taken : (program : Text) → IsTaken (program ∷ codes "replay" ∷ [])
unfolding walk_fault walked defaults_fault
replay_is_taken program = refl

pub serve_has_values : (program : Text) (uses : List Use) → IsForm uses → HasValues (serve_words program uses) uses
serve_has_values program uses form = record {
  rows = finished serve.rules (serve_end uses);
  command = ap (λ (w : Walk). entered line w.stopped) (ends_at_serve (words_of uses));
  values = values_given uses (finished serve.rules (serve_end uses)) (serve_given uses form);
}
