-- What stands in where a list has nothing: the values that the checker reads past the end.
use Rattle.std.proofs.Common.{[]}
use Rattle.rules.specs.declared.entry.Entry.{Entry}
use Rattle.rules.specs.State.{CachedPage}

abbrev pub blank : Entry
blank = record {
  page = 0;
  number = 0;
  hints = record { client = 0; count = 0; first = 0; second = 0; third = 0; fourth = 0; fifth = 0 };
}

abbrev pub blank_page : CachedPage
blank_page = record { entry = blank; bytes = [] }
