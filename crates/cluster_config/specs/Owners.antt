-- The keys that the code asks for.
use Rattle.std.specs.Prelude.{ℕ, List}
use Rattle.cluster_config.specs.Keys.{file_keys, user_keys}
use Rattle.cluster_config.specs.declared.keys.Owner.{Owner}
use Rattle.cluster_config.specs.declared.keys.Owner.TheVariants.{File, User}

abbrev pub keys_of : Owner → List (List ℕ)
keys_of File = file_keys
keys_of User = user_keys
