pub mod BufReader
pub mod BufWriter
pub mod Copy
pub mod Lent
pub mod PrefixedReadIo
pub mod Splice
pub mod Split
pub mod ZeroCopy
