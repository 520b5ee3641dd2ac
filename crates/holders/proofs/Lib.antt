-- What is noted in the buckets, and the holder that is found from there.
mod Noting
mod Holding
