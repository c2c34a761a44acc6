-- What the rows of options hold once words are taken without a fault.
use Rattle.std.proofs.Common.{◌≡◌, ◌∙◌, ◌<◌, ◌≤◌, ◌^◌, ◌||◌, ◌⊎◌, ℕ, Bool, ap, ap₂, arith, codes, cond, inl, inr, true, false, refl, subst, sym, List, [], ◌∷◌, ◌++◌, length, Some, true≢false}
use Rattle.std.specs.Prelude.{IfSome, find, fold, option_and_then, option_map, slice_get}
use Rattle.std.specs.Str.Parse.{digits_value, without_leading_plus}
use Rattle.clap.specs.Values.{bool_text, read_as, refused_kind}
use Rattle.clap.specs.ValueTests.{accepts}
use Rattle.clap.proofs.ValueTestLemmas.{accepts-Accepts}
use Rattle.std.specs.Option.{option_map_or}
use Rattle.std.specs.Str.{bytes_eq}
use Rattle.std.proofs.lemmas.Slice.Eq.{bytes_eq-Decides}
use Rattle.clap.specs.Facts.{explicit_source, parser_of_value, unwrap_or_range}
use Rattle.clap.specs.Walk.{Row, Rule, Text, action_of, arg_by_id, at_row, default_rows, first_of, has_row, is_empty, more_values, most_values, reading_by, row_text, used, used_as, values_or_missing, with_default, with_values, without}
use Rattle.clap.specs.Takes.{is_given}
use Rattle.clap.specs.Kinds.{range_kinds, request_kinds, value_kinds, values_kinds}
use Rattle.clap.specs.Faults.{action_fault, default_fault, defaults_fault, given_default_fault, repeat_fault, use_fault, values_fault}
use Rattle.clap.specs.declared.builder.action.ArgAction.TheVariants.{Help, Set, SetTrue}
use Rattle.clap.specs.declared.builder.value_parser.Reading.{Reading}
use Rattle.clap.specs.declared.builder.value_parser.Reading.TheVariants.{AsWritten}
use Rattle.clap.specs.declared.builder.value_parser.ValueParser.{ValueParser}
use Rattle.clap.specs.declared.builder.value_parser.ValueParser.TheVariants.{Unsigned}
use Rattle.clap.specs.declared.builder.value_parser.ValueParser.TheVariants as parser
use Rattle.command_line.specs.Options.{HasFlag, HasNumber}
use Rattle.clap.specs.declared.parser.matches.ValueSource.{ValueSource}
use Rattle.clap.specs.declared.parser.matches.ValueSource.TheVariants.{CommandLine, DefaultValue}
use Rattle.std.proofs.lemmas.Bool.{ne_eqb}
use Rattle.std.proofs.lemmas.List.{length-append}
use Rattle.clap.specs.declared.error.kind.ErrorKind.TheVariants as kind
use Rattle.command_line.proofs.Walks.{Each, neither}

-- values that the option takes, one at least, and how they are read
abbrev pub Filled : Reading → List Text → Rule → Type 0
Filled how values a = (how ≡ reading_by a) × (values_fault a values ≡ []) × (0 < length values)

-- the row has such values for the rule of its name
abbrev pub Fits : List Rule → Row → Type 0
Fits c r = IfSome (arg_by_id c r.id) (Filled r.reading r.values)

-- an option of one value, a flag, or a call for help
abbrev pub Kind : Rule → Type 0
Kind a = (action_of a ≡ Help) ⊎ (((action_of a ≡ Set) × ((unwrap_or_range a.range).start_inclusive ≡ 1)) ⊎ ((action_of a ≡ SetTrue) × (0 < length a.missing)))

-- the first rule of its name, and of such a kind
abbrev pub Reads : List Rule → Rule → Type 0
Reads c a = (arg_by_id c a.id ≡ Some a) × Kind a

-- values before and behind, each without a fault
both_values : (ignore_case : Bool) (parser : ValueParser) (xs ys : List Text) → values_kinds ignore_case parser xs ≡ [] → values_kinds ignore_case parser ys ≡ []
    → values_kinds ignore_case parser (xs ++ ys) ≡ []
both_values i p [] ys none e = e
both_values i p (x ∷ xs) ys none e =
    let parts = neither (value_kinds i p x) (values_kinds i p xs) none in
    rw parts.0 (both_values i p xs ys parts.1 e)

-- an option of one value that has none is at fault
no_value_faults : (least most : ℕ) → least ≡ 1 → range_kinds least most 0 ≡ [] → ⊥
no_value_faults least most one e =
    let bad : kind.InvalidValue ∷ [] ≡ [] = subst (λ n. range_kinds n most 0 ≡ []) one e in
    cc

not_empty : (v : Text) (vs : List Text) → is_empty (v ∷ vs) ≡ false
not_empty v vs = ne_eqb _ _ (λ e. omega arith)

each_append : {X : Type 0} (P : X → Type 0) (xs ys : List X) → Each P xs → Each P ys → Each P (xs ++ ys)
each_append P [] ys e f = f
each_append P (x ∷ xs) ys e f = (e.0, each_append P xs ys e.1 f)

at_row_each : (P : Row → Type 0) (id : Text) (change : Row → List Row) (missing rows : List Row) → ((r : Row) → bytes_eq r.id id ≡ true → P r → Each P (change r)) → Each P missing
    → Each P rows → Each P (at_row id change missing rows)
at_row_each P id change missing [] changed m k = m
at_row_each P id change missing (r ∷ rs) changed m k = go (bytes_eq r.id id) refl (at_row_each P id change missing rs changed m k.1)
  where
    go : (b : Bool) → bytes_eq r.id id ≡ b → Each P (at_row id change missing rs) → Each P (cond b (change r ++ rs) (r ∷ at_row id change missing rs))
    go true e rest = each_append P (change r) rs (changed r e k.0) k.1
    go false e rest = (k.0, rest)

module _ (c : List Rule) where
  -- more values of a rule, or its first ones
  values_fit : (a : Rule) (from : ValueSource) (values : List Text) (rows : List Row) → arg_by_id c a.id ≡ Some a → values_fault a values ≡ [] → 0 < length values
      → Each (Fits c) rows → Each (Fits c) (with_values a.id (reading_by a) from values rows)
  values_fit a from values rows own none some k =
      at_row_each (Fits c) a.id (more_values from values) _ rows more (subst (λ o. IfSome o (Filled (reading_by a) values)) (sym own) (refl, none, some), tt) k
    where
      more : (r : Row) → bytes_eq r.id a.id ≡ true → Fits c r → Each (Fits c) (more_values from values r)
      more r same fits =
          let of : arg_by_id c r.id ≡ Some a = ap (arg_by_id c) ((bytes_eq-Decides r.id a.id).0 same) ∙ own in
          let now : Filled r.reading r.values a = subst (λ o. IfSome o (Filled r.reading r.values)) of fits in (
            subst (λ o. IfSome o (Filled r.reading (r.values ++ values))) (sym of)
                (now.0, both_values a.ignore_case (parser_of_value a.parser) r.values values now.1 none, rw length-append (omega arith)),
            tt,
          )

  without_fits : (id : Text) (rows : List Row) → Each (Fits c) rows → Each (Fits c) (without id rows)
  without_fits id rows k = at_row_each (Fits c) id (λ _. []) [] rows (λ r same fits. tt) tt k

  -- one use of an option of one value
  set_fits : (again : Bool) (a : Rule) (values : List Text) (rows : List Row) → arg_by_id c a.id ≡ Some a → (unwrap_or_range a.range).start_inclusive ≡ 1
      → range_kinds (unwrap_or_range a.range).start_inclusive (most_values a) (length values) ≡ [] → action_fault Set again a (values_or_missing a values) rows ≡ []
      → Each (Fits c) rows → Each (Fits c) (used_as Set a.id (reading_by a) (values_or_missing a values) rows)
  set_fits again a [] rows own one range fault k = absurd (no_value_faults (unwrap_or_range a.range).start_inclusive (most_values a) one range)
  set_fits again a (v ∷ vs) rows own one range fault k =
      values_fit a CommandLine (v ∷ vs) (without a.id rows) own (neither (repeat_fault again a.id rows) (values_fault a (v ∷ vs)) fault).1 (omega arith) (without_fits a.id rows k)

  -- one use of a flag
  flag_fits : (again : Bool) (a : Rule) (values : List Text) (rows : List Row) → arg_by_id c a.id ≡ Some a → 0 < length a.missing
      → action_fault SetTrue again a (values_or_missing a values) rows ≡ [] → Each (Fits c) rows
      → Each (Fits c) (used_as SetTrue a.id (reading_by a) (values_or_missing a values) rows)
  flag_fits again a [] rows own some fault k =
      values_fit a CommandLine a.missing (without a.id rows) own (neither (repeat_fault again a.id rows) (values_fault a a.missing) fault).1 some (without_fits a.id rows k)
  flag_fits again a (v ∷ vs) rows own some fault k =
      values_fit a CommandLine (v ∷ vs) (without a.id rows) own (neither (repeat_fault again a.id rows) (values_fault a (v ∷ vs)) fault).1 (omega arith) (without_fits a.id rows k)

  -- one use of any rule
  pub used_fits : (again : Bool) (a : Rule) (values : List Text) (rows : List Row) → Reads c a → use_fault again a values rows ≡ [] → Each (Fits c) rows
      → Each (Fits c) (used a values rows)
  used_fits again a values rows reads e k =
      let steps = neither (range_kinds (unwrap_or_range a.range).start_inclusive (most_values a) (length values)) (action_fault (action_of a) again a (values_or_missing a values) rows) e in
      go reads.1 steps.0 steps.1
    where
      go : Kind a
          → range_kinds (unwrap_or_range a.range).start_inclusive (most_values a) (length values) ≡ [] → action_fault (action_of a) again a (values_or_missing a values) rows ≡ []
          → Each (Fits c) (used a values rows)
      go (inl help) range fault =
          let bad : kind.DisplayHelp ∷ [] ≡ [] = subst (λ x. action_fault x again a (values_or_missing a values) rows ≡ []) help fault in
          cc
      go (inr (inl option)) range fault =
          subst (λ x. Each (Fits c) (used_as x a.id (reading_by a) (values_or_missing a values) rows)) (sym option.0)
          (set_fits again a values rows reads.0 option.1 range (subst (λ x. action_fault x again a (values_or_missing a values) rows ≡ []) option.0 fault) k)
      go (inr (inr flag)) range fault =
          subst (λ x. Each (Fits c) (used_as x a.id (reading_by a) (values_or_missing a values) rows)) (sym flag.0)
          (flag_fits again a values rows reads.0 flag.1 (subst (λ x. action_fault x again a (values_or_missing a values) rows ≡ []) flag.0 fault) k)

  default_fits : (a : Rule) (rows : List Row) → arg_by_id c a.id ≡ Some a → default_fault rows a ≡ [] → Each (Fits c) rows → Each (Fits c) (with_default rows a)
  default_fits a rows own e k = go (has_row a.id rows) a.defaults e
    where
      go : (b : Bool) (values : List Text) → cond (b || is_empty values) [] (given_default_fault a values) ≡ []
          → Each (Fits c) (cond b rows (default_rows a.id (reading_by a) values rows))
      go true values e = k
      go false [] e = k
      go false (v ∷ vs) e = values_fit a DefaultValue (v ∷ vs) rows own (neither (request_kinds (action_of a)) (values_fault a (v ∷ vs)) (rw (not_empty v vs) at e)).1 (omega arith) k

  -- what the options that aren't given get
  pub defaults_fit : (rules : List Rule) (rows : List Row) → Each (Reads c) rules → defaults_fault rows rules ≡ [] → Each (Fits c) rows → Each (Fits c) (fold with_default rows rules)
  unfolding defaults_fault
  defaults_fit [] rows reads e k = k
  defaults_fit (a ∷ rest) rows reads e k =
      let none = neither (default_fault rows a) (defaults_fault (with_default rows a) rest) e in
      defaults_fit rest (with_default rows a) reads.1 none.1 (default_fits a rows reads.0.0 none.0 k)

-- ---- rows that are there

either_way : (h a b : Bool) → (a ≡ true → b ≡ true) → (h || a) ≡ true → (h || b) ≡ true
either_way true a b ih e = refl
either_way false a b ih e = ih e

more_has_row : (id key : Text) (from : ValueSource) (values : List Text) (missing rows : List Row) → has_row id rows ≡ true
    → has_row id (at_row key (more_values from values) missing rows) ≡ true
more_has_row id key from values missing [] e = absurd (true≢false (sym e))
more_has_row id key from values missing (r ∷ rs) e = go (bytes_eq r.id key) (more_has_row id key from values missing rs)
  where
    go : (b : Bool) → (has_row id rs ≡ true → has_row id (at_row key (more_values from values) missing rs) ≡ true)
        → has_row id (cond b (more_values from values r ++ rs) (r ∷ at_row key (more_values from values) missing rs)) ≡ true
    go true ih = e
    go false ih = either_way (bytes_eq r.id id) (has_row id rs) _ ih e

added_row : (id : Text) (from : ValueSource) (values : List Text) (new : Row) (rows : List Row) → bytes_eq new.id id ≡ true
    → has_row id (at_row id (more_values from values) (new ∷ []) rows) ≡ true
added_row id from values new [] same = rw same refl
added_row id from values new (r ∷ rs) same = go (bytes_eq r.id id) refl (added_row id from values new rs same)
  where
    go : (b : Bool) → bytes_eq r.id id ≡ b → has_row id (at_row id (more_values from values) (new ∷ []) rs) ≡ true
        → has_row id (cond b (more_values from values r ++ rs) (r ∷ at_row id (more_values from values) (new ∷ []) rs)) ≡ true
    go true is ih = rw is refl
    go false is ih = rw is ih

default_keeps_row : (id : Text) (a : Rule) (rows : List Row) → has_row id rows ≡ true → has_row id (with_default rows a) ≡ true
default_keeps_row id a rows e = go (has_row a.id rows) a.defaults
  where
    go : (b : Bool) (values : List Text) → has_row id (cond b rows (default_rows a.id (reading_by a) values rows)) ≡ true
    go true values = e
    go false [] = e
    go false (v ∷ vs) = more_has_row id a.id DefaultValue (v ∷ vs) _ rows e

defaults_keep_row : (id : Text) (rules : List Rule) (rows : List Row) → has_row id rows ≡ true → has_row id (fold with_default rows rules) ≡ true
defaults_keep_row id [] rows e = e
defaults_keep_row id (a ∷ rest) rows e = defaults_keep_row id rest (with_default rows a) (default_keeps_row id a rows e)

default_row : (a : Rule) (rows : List Row) → is_empty a.defaults ≡ false → has_row a.id (with_default rows a) ≡ true
default_row a rows some = go (has_row a.id rows) refl a.defaults some
  where
    go : (b : Bool) → has_row a.id rows ≡ b → (values : List Text) → is_empty values ≡ false → has_row a.id (cond b rows (default_rows a.id (reading_by a) values rows)) ≡ true
    go true e values some = e
    go false e [] some = absurd (true≢false some)
    go false e (v ∷ vs) some = added_row a.id DefaultValue (v ∷ vs) _ rows ((bytes_eq-Decides a.id a.id).1 refl)

-- an option with a default has a row
pub default_given : (id : Text) (rules : List Rule) (rows : List Row) → IfSome (arg_by_id rules id) (λ a. is_empty a.defaults ≡ false → has_row id (fold with_default rows rules) ≡ true)
default_given id [] rows = tt
default_given id (a ∷ rest) rows = go (bytes_eq a.id id) refl (default_given id rest (with_default rows a))
  where
    go : (b : Bool) → bytes_eq a.id id ≡ b → IfSome (arg_by_id rest id) (λ x. is_empty x.defaults ≡ false → has_row id (fold with_default (with_default rows a) rest) ≡ true)
        → IfSome (cond b (Some a) (arg_by_id rest id)) (λ x. is_empty x.defaults ≡ false → has_row id (fold with_default (with_default rows a) rest) ≡ true)
    go true same ih = λ some. defaults_keep_row id rest (with_default rows a)
        (subst (λ t. has_row t (with_default rows a) ≡ true) ((bytes_eq-Decides a.id id).0 same) (default_row a rows some))
    go false same ih = ih

-- an option that is given has a row
pub given_row : (id : Text) (rows : List Row) → is_given id rows ≡ true → has_row id rows ≡ true
given_row id [] e = e
given_row id (r ∷ rs) e = go (bytes_eq r.id id) e (given_row id rs)
  where
    go : (b : Bool) → option_map_or (λ (x : Row). explicit_source x.source) (cond b (Some r) (find (λ x. bytes_eq x.id id) rs)) false ≡ true
        → (is_given id rs ≡ true → has_row id rs ≡ true) → (b || has_row id rs) ≡ true
    go true e ih = refl
    go false e ih = ih e

found_row : (P : Row → Type 0) (id : Text) (rows : List Row) → has_row id rows ≡ true → Each P rows
    → (r : Row) × (find (λ x. bytes_eq x.id id) rows ≡ Some r) × (bytes_eq r.id id ≡ true) × P r
found_row P id [] e k = absurd (true≢false (sym e))
found_row P id (r ∷ rs) e k = go (bytes_eq r.id id) refl e (λ e. found_row P id rs e k.1)
  where
    go : (b : Bool) → bytes_eq r.id id ≡ b → (b || has_row id rs) ≡ true
        → (has_row id rs ≡ true → (q : Row) × (find (λ x. bytes_eq x.id id) rs ≡ Some q) × (bytes_eq q.id id ≡ true) × P q)
        → (q : Row) × (cond b (Some r) (find (λ x. bytes_eq x.id id) rs) ≡ Some q) × (bytes_eq q.id id ≡ true) × P q
    go true same e ih = (r, refl, same, k.0)
    go false same e ih = ih e

-- the row of an option that is there
pub found_fits : (c : List Rule) (id : Text) (rows : List Row) → has_row id rows ≡ true → Each (Fits c) rows
    → (r : Row) × (find (λ x. bytes_eq x.id id) rows ≡ Some r) × IfSome (arg_by_id c id) (Filled r.reading r.values)
found_fits c id rows has k =
    let f = found_row (Fits c) id rows has k in
    (f.0, f.1, subst (λ t. IfSome (arg_by_id c t) (Filled f.0.reading f.0.values)) ((bytes_eq-Decides f.0.id id).0 f.2) f.3)

-- ---- what is read of them

accepted : (ignore_case : Bool) (parser : ValueParser) (text : Text) → value_kinds ignore_case parser text ≡ [] → accepts ignore_case parser text ≡ true
accepted ignore_case parser text e = go (accepts ignore_case parser text) e
  where
    go : (b : Bool) → cond b [] (refused_kind parser ∷ []) ≡ [] → b ≡ true
    go true e = refl
    go false e = cc

-- the number of an option, and the text of one
pub number_given : (bits low high : ℕ) (ignore_case : Bool) (rows : List Row) (id : Text) (r : Row) → find (λ x. bytes_eq x.id id) rows ≡ Some r → r.reading ≡ AsWritten
    → values_kinds ignore_case (Unsigned low high) r.values ≡ [] → 0 < length r.values → high < 2 ^ bits → (n : ℕ) × HasNumber bits rows id n
number_given bits low high ignore_case rows id r at reading none some below = go r.values refl none some
  where
    go : (vs : List Text) → r.values ≡ vs → values_kinds ignore_case (Unsigned low high) vs ≡ [] → 0 < length vs → (n : ℕ) × HasNumber bits rows id n
    go [] is none some = absurd (omega arith)
    go (v ∷ vs) is none some =
        let parser = Unsigned low high in
        let num = accepts-Accepts ignore_case (Unsigned low high) v (accepted ignore_case parser v (neither (value_kinds ignore_case parser v) (values_kinds ignore_case parser vs) none).0) in
        let most : digits_value 10 (without_leading_plus v) ≤ high = num.3 in (
          digits_value 10 (without_leading_plus v),
          record {
            text = v;
            found = ap (option_and_then row_text) at ∙ ap₂ (λ how ws. option_map (read_as how) (slice_get ws 0)) reading is;
            numeral = num.0;
            fits = omega arith;
            value = refl;
          },
        )

pub text_given : (rows : List Row) (id : Text) (r : Row) → find (λ x. bytes_eq x.id id) rows ≡ Some r → 0 < length r.values → (t : Text) × (first_of id rows ≡ Some t)
text_given rows id r at some = go r.values refl some
  where
    go : (vs : List Text) → r.values ≡ vs → 0 < length vs → (t : Text) × (first_of id rows ≡ Some t)
    go [] is some = absurd (omega arith)
    go (v ∷ vs) is some = (v, ap (option_and_then (λ (x : Row). slice_get x.values 0)) at ∙ ap (λ ws. slice_get ws 0) is)

-- whether a flag is given
pub flag_given : (ignore_case : Bool) (rows : List Row) (id : Text) (r : Row) → find (λ x. bytes_eq x.id id) rows ≡ Some r
    → values_kinds ignore_case parser.Bool r.values ≡ [] → 0 < length r.values → (given : Bool) × HasFlag rows id given
flag_given ignore_case rows id r at none some = go r.values refl none some
  where
    row_at : (v : Text) (vs : List Text) → r.values ≡ v ∷ vs → first_of id rows ≡ Some v
    row_at v vs is = ap (option_and_then (λ (x : Row). slice_get x.values 0)) at ∙ ap (λ ws. slice_get ws 0) is

    is_one : (v : Text) (vs : List Text) → r.values ≡ v ∷ vs → (b : Bool) → bytes_eq v (codes "true") ≡ b → (b || bytes_eq v (codes "false")) ≡ true
        → (given : Bool) × HasFlag rows id given
    is_one v vs is true same e = (true, row_at v vs is ∙ ap Some ((bytes_eq-Decides v (codes "true")).0 same))
    is_one v vs is false same e = (false, row_at v vs is ∙ ap Some ((bytes_eq-Decides v (codes "false")).0 e))

    go : (vs : List Text) → r.values ≡ vs → values_kinds ignore_case parser.Bool vs ≡ [] → 0 < length vs → (given : Bool) × HasFlag rows id given
    go [] is none some = absurd (omega arith)
    go (v ∷ vs) is none some =
        is_one v vs is (bytes_eq v (codes "true")) refl (accepted ignore_case parser.Bool v (neither (value_kinds ignore_case parser.Bool v) (values_kinds ignore_case parser.Bool vs) none).0)
