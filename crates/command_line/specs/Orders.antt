-- Which order the words of a command line give, by `clap`'s own definition of what matches a command.
use Rattle.std.specs.Prelude.{◌≡◌, ◌⊎◌, ⊤, Bool, true, false, List, [], Option, Some, None, codes, map, option_map, IsSome}
use Rattle.std.specs.Option.{unwrap_or}
use Rattle.std.specs.Str.{bytes_eq}
use Rattle.std.specs.String.{string_bytes}
use Rattle.clap.specs.Words.{Row, Text, all_of, first_of, subcommand_of}
use Rattle.command_line.specs.CommandWords.{sfq}
use Rattle.command_line.specs.declared.known_commands.Order.{Order}
use Rattle.command_line.specs.declared.known_commands.Order.TheVariants as order

-- the name of the order's subcommand
abbrev pub name_of : Order → Text
name_of (order.Run schema directory query why) = codes "run"
name_of (order.Check schema directory why) = codes "check"
name_of (order.Relate first second why) = codes "relate"
name_of (order.Why first second why) = codes "why"
name_of (order.Pairs file why) = codes "pairs"
name_of (order.Fault words) = codes "fault"

-- whether an order asks to say more of a fault
abbrev pub asks_why : Order → Bool
asks_why (order.Run schema directory query why) = why
asks_why (order.Check schema directory why) = why
asks_why (order.Relate first second why) = why
asks_why (order.Why first second why) = why
asks_why (order.Pairs file why) = why
asks_why (order.Fault words) = false

-- the same order, asking to say more of a fault
abbrev pub with_why : Order → Order
with_why (order.Run schema directory query why) = order.Run schema directory query true
with_why (order.Check schema directory why) = order.Check schema directory true
with_why (order.Relate first second why) = order.Relate first second true
with_why (order.Why first second why) = order.Why first second true
with_why (order.Pairs file why) = order.Pairs file true
with_why (order.Fault words) = order.Fault words

-- whether a flag is there, by the word that `clap` has of it: `true`, else `false`
abbrev pub is_set : Option Text → Bool
is_set None = false
is_set (Some word) = bytes_eq word (codes "true")

-- the words that are there of those that may be as many as one likes
abbrev pub given_words : Text → List Row → List Text
given_words id rows = unwrap_or (all_of id rows) []

-- each text of the order is the word in its place, and a word that may be missing is there exactly if its text is; so is a flag
abbrev pub HasTextsOf : List Row → Order → Type 0
HasTextsOf rows (order.Run schema directory query why) =
    (first_of (codes "schema") rows ≡ Some (string_bytes schema))
    × (first_of (codes "directory") rows ≡ Some (string_bytes directory))
    × (first_of (codes "query") rows ≡ Some (string_bytes query))
    × (why ≡ is_set (first_of (codes "why") rows))
HasTextsOf rows (order.Check schema directory why) =
    (first_of (codes "schema") rows ≡ Some (string_bytes schema))
    × (first_of (codes "directory") rows ≡ Some (string_bytes directory))
    × (why ≡ is_set (first_of (codes "why") rows))
HasTextsOf rows (order.Relate first second why) =
    (first_of (codes "first") rows ≡ Some (string_bytes first))
    × (first_of (codes "second") rows ≡ Some (string_bytes second))
    × (why ≡ is_set (first_of (codes "why") rows))
HasTextsOf rows (order.Why first second why) =
    (first_of (codes "first") rows ≡ Some (string_bytes first))
    × (first_of (codes "second") rows ≡ option_map string_bytes second)
    × (why ≡ is_set (first_of (codes "why") rows))
HasTextsOf rows (order.Pairs file why) =
    (first_of (codes "file") rows ≡ Some (string_bytes file))
    × (why ≡ is_set (first_of (codes "why") rows))
HasTextsOf rows (order.Fault words) = given_words (codes "code") rows ≡ map string_bytes words.items

-- the subcommand is that of the order, and so are its words
abbrev pub OrdersBy : Option (Text × List Row) → Order → Type 0
OrdersBy met order = (rows : List Row) × (met ≡ Some (name_of order, rows)) × HasTextsOf rows order

-- the words give this order
abbrev pub Orders : List Text → Order → Type 0
Orders words = OrdersBy (subcommand_of sfq words)

-- each word of `run` is there
abbrev pub HasRunWords : List Row → Type 0
HasRunWords rows = IsSome (first_of (codes "schema") rows)
    × IsSome (first_of (codes "directory") rows)
    × IsSome (first_of (codes "query") rows)

-- each word of `check` is there
abbrev pub HasCheckWords : List Row → Type 0
HasCheckWords rows = IsSome (first_of (codes "schema") rows) × IsSome (first_of (codes "directory") rows)

-- each word of `relate` is there
abbrev pub HasRelateWords : List Row → Type 0
HasRelateWords rows = IsSome (first_of (codes "first") rows) × IsSome (first_of (codes "second") rows)

-- the word of `why` that has to be there is there
abbrev pub HasWhyWords : List Row → Type 0
HasWhyWords rows = IsSome (first_of (codes "first") rows)

-- the word of `pairs` is there
abbrev pub HasPairsWords : List Row → Type 0
HasPairsWords rows = IsSome (first_of (codes "file") rows)

-- `fault` has no word that has to be there
abbrev pub HasFaultWords : List Row → Type 0
HasFaultWords rows = ⊤

-- the subcommand is one of these, and each of its words that has to be there is there
abbrev pub HasWords : Option (Text × List Row) → Type 0
HasWords met = ((rows : List Row) × (met ≡ Some (codes "run", rows)) × HasRunWords rows)
    ⊎ ((rows : List Row) × (met ≡ Some (codes "check", rows)) × HasCheckWords rows)
    ⊎ ((rows : List Row) × (met ≡ Some (codes "relate", rows)) × HasRelateWords rows)
    ⊎ ((rows : List Row) × (met ≡ Some (codes "why", rows)) × HasWhyWords rows)
    ⊎ ((rows : List Row) × (met ≡ Some (codes "pairs", rows)) × HasPairsWords rows)
    ⊎ ((rows : List Row) × (met ≡ Some (codes "fault", rows)) × HasFaultWords rows)
