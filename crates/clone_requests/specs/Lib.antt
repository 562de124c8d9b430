pub mod WrittenAny
