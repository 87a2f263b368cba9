-- Accounts as the columns of a row.
use Rattle.std.specs.Prelude.{ℕ, ◌^◌, ◌==◌, ◌&&◌, nat_lt, if◌then◌else◌, List, [], ◌∷◌, Option, None, Some}
use Rattle.replay_model.specs.TableMap.{column_in}
use Rattle.typed_tables.specs.declared.account.Account.{Account}

-- owner, balance and four zeros
abbrev pub account_columns : Account → List ℕ
account_columns account = account.owner ∷ account.balance ∷ 0 ∷ 0 ∷ 0 ∷ 0 ∷ []

-- columns are those of an account where the owner has 32 bits and zeros stand behind the balance
abbrev pub account_of : List ℕ → Option Account
account_of columns =
    if nat_lt (column_in 1 columns) (2 ^ 32) && column_in 3 columns == 0 && column_in 4 columns == 0 && column_in 5 columns == 0
    && column_in 6 columns == 0
    then Some (record { owner = column_in 1 columns; balance = column_in 2 columns })
    else None
