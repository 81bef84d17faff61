-- What a predicate is compared with: `= 1` or `= 0`.
use Rattle.std.specs.Prelude.{Bool, true, false, ◌&&◌, ◌==◌, if◌then◌else◌, Ok, Err}
use Rattle.std.specs.Str.Parse.{digits_value}
use Rattle.table_model.specs.declared.faults.QueryFault.TheVariants as fault
use Rattle.table_model.specs.declared.tokens.TokenKind.TheVariants as k
use Rattle.table_model.specs.Parsers.{place, next, sees, spelling, ◌>>=◌, pure, eat}
use Rattle.table_model.specs.QueryReading.{Reader}

-- '1' or '0' after a predicate and '=', an integer token of that value: whether the predicate is to hold
abbrev pub truth : Reader Bool
truth ts =
    if sees k.Integer ts && digits_value 10 (spelling ts) == 1 then Ok (true, next ts)
    else (if sees k.Integer ts && digits_value 10 (spelling ts) == 0 then Ok (false, next ts)
    else Err (fault.Syntax (place ts)))

-- what a predicate is compared with, if it is compared: whether the predicate is to hold
abbrev pub comparand : Reader Bool
comparand = do
  compared ← eat k.Equal
  if compared then truth else pure true
