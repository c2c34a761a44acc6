use Rattle.std.proofs.Common.{subst}
use Rattle.std.specs.Str.{IsUtf8}
use Rattle.std.proofs.lemmas.Str.{is_utf8-from_IsUtf8}
use Rattle.keep_tables.proofs.rows.totals.add_row.Goals as goal

pub returns-in-Ok-clause-named : goal.returns-in-Ok-clause-named
returns-in-Ok-clause-named g c = is_utf8-from_IsUtf8 c.args.row.now.name (subst IsUtf8 c.as_str.ensures c.as_str.utf8)

pub returns-in-Err-clause-named : goal.returns-in-Err-clause-named
returns-in-Err-clause-named g c = is_utf8-from_IsUtf8 c.args.row.now.name (subst IsUtf8 c.as_str.ensures c.as_str.utf8)
