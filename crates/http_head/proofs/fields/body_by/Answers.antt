use Rattle.std.proofs.Common.{◌+◌, length, refl, sym, ◌∙◌}
use Rattle.std.proofs.lemmas.List.Elements.{All-drop, All-take}
use Rattle.httparse.specs.Spans.{IsHeaderWithin}
use Rattle.http_head.proofs.FieldsNamed.{both_given, named_at, none_behind, none_named, some_behind}
use Rattle.http_head.proofs.fields.body_by.Goals as goal

pub returns-in-None-None-clause-value : goal.returns-in-None-None-clause-value
returns-in-None-None-clause-value c =
    let sizes = none_named c.args.buf.now c.args.headers.now _ c.first_named-length.result c.in-None-None.is-0 c.first_named-length.ensures in
    let codings = none_named c.args.buf.now c.args.headers.now _ c.first_named-coding.result c.in-None-None.is-1 c.first_named-coding.ensures in
    rw (sizes, codings) refl

pub returns-in-Some-Some-clause-value : goal.returns-in-Some-Some-clause-value
returns-in-Some-Some-clause-value c =
    let sizes = named_at c.args.buf.now c.args.headers.now _ c.first_named-length.result c.in-Some-Some.field-0-0 c.in-Some-Some.is-0 c.first_named-length.ensures in
    let codings = named_at c.args.buf.now c.args.headers.now _ c.first_named-coding.result c.in-Some-Some.field-0-1 c.in-Some-Some.is-1 c.first_named-coding.ensures in
    both_given sizes codings

pub first_named-requires : goal.first_named-requires
first_named-requires c =
    let P = IsHeaderWithin (length c.args.buf.now) in
    All-take P _ _ (All-drop P (c.in-None-Some.i + 1) c.args.headers.now c.requires)

pub first_named-requires-in-Some-None : goal.first_named-requires-in-Some-None
first_named-requires-in-Some-None c =
    let P = IsHeaderWithin (length c.args.buf.now) in
    All-take P _ _ (All-drop P (c.in-Some-None.i + 1) c.args.headers.now c.requires)

pub returns-then-is_some-clause-value : goal.returns-then-is_some-clause-value
returns-then-is_some-clause-value c =
    let sizes = none_named c.args.buf.now c.args.headers.now _ c.first_named-length.result c.in-None-Some.is-0 c.first_named-length.ensures in
    let codings = named_at c.args.buf.now c.args.headers.now _ c.first_named-coding.result c.in-None-Some.i c.in-None-Some.is-1 c.first_named-coding.ensures in
    let more = some_behind c.args.buf.now c.args.headers.now (c.in-None-Some.i + 1) _ c.first_named.result (sym c.is_some.ensures ∙ c.if-is_some.true) c.first_named.ensures in
    rw (sizes, codings, more.2) refl

pub returns-else-is_some-clause-value : goal.returns-else-is_some-clause-value
returns-else-is_some-clause-value c =
    let sizes = none_named c.args.buf.now c.args.headers.now _ c.first_named-length.result c.in-None-Some.is-0 c.first_named-length.ensures in
    let codings = named_at c.args.buf.now c.args.headers.now _ c.first_named-coding.result c.in-None-Some.i c.in-None-Some.is-1 c.first_named-coding.ensures in
    let no_more = none_behind c.args.buf.now c.args.headers.now (c.in-None-Some.i + 1) _ c.first_named.result (sym c.is_some.ensures ∙ c.if-is_some.false) c.first_named.ensures in
    rw (sizes, codings, no_more, c.coded_by.ensures, c.of.ensures) refl
